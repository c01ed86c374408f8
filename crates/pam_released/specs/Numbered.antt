-- The logical lines of released Linux-PAM, each with the number of the physical line at which it begins, and whether a line feed ends it.
use Rattle.std.specs.Prelude.{ℕ, ◌+◌, ◌==◌, ◌&&◌, not, Bool, true, false, List, [], ◌∷◌, ◌++◌, length, if◌then◌else◌, Option, Some, None}
use Rattle.std.specs.Option.{option_map}
use Rattle.pam_released.specs.Lines.{before_hash, ends_in_feed, front_part, goes_on, has_hash, is_blank_line, physical_lines, without_start_blanks}
use Rattle.pam_released.specs.declared.release.Release.{Release}
use Rattle.pam_released.specs.declared.release.Release.TheVariants.{Older, Newer}

-- a logical line. A comment hides the line feed after it
pub record NumberedLine : Type 0 where
  pub start : ℕ
  pub text : List ℕ
  pub is_fed : Bool

-- the logical line with this text before that of its last line, which a line feed ends if `fed`
abbrev pub numbered_line : ℕ → List ℕ → Bool → List ℕ → NumberedLine
numbered_line start got fed text = record { start = start; text = got ++ before_hash text; is_fed = fed && not (has_hash text) }

-- where the file ends after a line that goes on, it is refused
abbrev pub numbered_end : Bool → Option (List NumberedLine)
numbered_end inside = if inside then None else Some []

-- 1.5.2: a piece, as `piece_read` has it, which a line feed ends if `fed`. `start` is the number of the line at which the logical line
-- begins, `after` that of the next piece; a logical line begins at its first piece that is not blank
abbrev pub numbered_piece : ℕ → List ℕ → List ℕ → Bool → Bool → ℕ → (ℕ → List ℕ → Bool → Option (List NumberedLine)) → Option (List NumberedLine)
numbered_piece start got text fed inside after next =
    if is_blank_line text then next (if inside then start else after) got inside
    else if goes_on text then next start (got ++ front_part text) true
    else option_map (λ more. numbered_line start got fed text ∷ more) (next after [] false)

-- as `buffered`, from the line with this number on
unfoldable pub numbered_152 : ℕ → ℕ → List ℕ → List ℕ → Bool → List ℕ → Option (List NumberedLine)
numbered_152 line start got [] inside [] = numbered_end inside
numbered_152 line start got (p ∷ piece) inside [] = numbered_piece start got (p ∷ piece) false inside (line + 1) (λ s g i. numbered_end i)
numbered_152 line start got piece inside (b ∷ bs) =
    if b == 10 then numbered_piece start got piece true inside (line + 1) (λ s g i. numbered_152 (line + 1) s g [] i bs)
    else if length got + length piece + 1 == 1023 then
    numbered_piece start got (piece ++ b ∷ []) false inside line (λ s g i. numbered_152 line s g [] i bs)
    else numbered_152 line start got (piece ++ b ∷ []) inside bs

-- an empty line is skipped
abbrev pub with_line : ℕ → List ℕ → Bool → List NumberedLine → List NumberedLine
with_line start [] fed more = more
with_line start (b ∷ text) fed more = record { start = start; text = b ∷ text; is_fed = fed } ∷ more

-- a line feed ends a line: those before others always, the last one if the file ends in one
abbrev pub is_fed_before : Bool → List (List ℕ) → Bool
is_fed_before closed [] = closed
is_fed_before closed (line ∷ lines) = true

-- 1.7.0: as `lines_170`, after the text of the lines that go on. `closed`: the file ends in a line feed
unfoldable pub numbered_170 : Bool → ℕ → ℕ → List ℕ → Bool → List (List ℕ) → Option (List NumberedLine)
numbered_170 closed line start got inside [] = numbered_end inside
numbered_170 closed line start got inside (text ∷ lines) =
    if goes_on text then numbered_170 closed (line + 1) start (got ++ without_start_blanks (front_part text)) true lines
    else option_map (with_line start (got ++ without_start_blanks (before_hash text)) (is_fed_before closed lines && not (has_hash text)))
    (numbered_170 closed (line + 1) (line + 1) [] false lines)

-- THE LOGICAL LINES OF A FILE by a release. None where it is refused
abbrev pub numbered_lines : Release → List ℕ → Option (List NumberedLine)
numbered_lines Older bytes = numbered_152 1 1 [] [] false bytes
numbered_lines Newer bytes = numbered_170 (ends_in_feed bytes) 1 1 [] false (physical_lines bytes)
