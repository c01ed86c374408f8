-- Lines and rules of a release, without the numbers of their lines.
use Rattle.std.proofs.Common.{◌≡◌, ◌+◌, ◌++◌, ◌&&◌, ◌∙◌, ℕ, Bool, true, false, not, List, [], ◌∷◌, length, map, cond, eqb, ap, sym, refl, Option, Some, None}
use Rattle.std.specs.Option.{option_map}
use Rattle.pam_conf.specs.declared.rule.Form.{Form}
use Rattle.pam_released.specs.Buffer.{at_end, buffered, piece_read}
use Rattle.pam_released.specs.Lines.{before_hash, ends_in_feed, front_part, goes_on, has_hash, is_blank_line, lines_170, not_empty, onto_line}
use Rattle.pam_released.specs.Lines.{physical_lines, without_start_blanks}
use Rattle.pam_released.specs.Numbered.{NumberedLine, is_fed_before, numbered_152, numbered_170, numbered_end, numbered_line, numbered_lines}
use Rattle.pam_released.specs.Numbered.{numbered_piece, with_line}
use Rattle.pam_released.specs.Readings.{numbered_reading, numbered_rules, rules_by}
use Rattle.pam_released.specs.Rules.{Reading, line_reading, rules_152, rules_170}
use Rattle.pam_released.specs.Words.{line_words}
use Rattle.pam_released.proofs.Buffer.{onto_twice, with_got}
use Rattle.pam_released.specs.declared.release.Release.{Release}
use Rattle.pam_released.specs.declared.release.Release.TheVariants.{Older, Newer}

abbrev pub texts_only : Option (List NumberedLine) → Option (List (List ℕ))
texts_only read = option_map (map (λ l. l.text)) read

with_one : (line : NumberedLine) (o : Option (List NumberedLine)) →
    texts_only (option_map (λ more. line ∷ more) o) ≡ option_map (λ more. line.text ∷ more) (texts_only o)
with_one line None = refl
with_one line (Some more) = refl

-- 1.5.2

piece_alike : (start after : ℕ) (got text : List ℕ) (fed inside : Bool) (next : ℕ → List ℕ → Bool → Option (List NumberedLine))
    (plain : List ℕ → Bool → Option (List (List ℕ))) → ((s : ℕ) (g : List ℕ) (i : Bool) → texts_only (next s g i) ≡ plain g i) →
    texts_only (numbered_piece start got text fed inside after next) ≡ piece_read got text inside plain
piece_alike start after got text fed inside next plain h =
    elim (is_blank_line text) as (λ (t : Bool). texts_only (cond t (next (cond inside start after) got inside)
    (cond (goes_on text) (next start (got ++ front_part text) true) (option_map (λ more. numbered_line start got fed text ∷ more) (next after [] false))))
    ≡ cond t (plain got inside) (cond (goes_on text) (plain (got ++ front_part text) true)
    (option_map (λ more. (got ++ before_hash text) ∷ more) (plain [] false)))) [
      | true ↦ h (cond inside start after) got inside
      | false ↦ elim (goes_on text) as (λ (t : Bool). texts_only (cond t (next start (got ++ front_part text) true)
          (option_map (λ more. numbered_line start got fed text ∷ more) (next after [] false)))
          ≡ cond t (plain (got ++ front_part text) true) (option_map (λ more. (got ++ before_hash text) ∷ more) (plain [] false))) [
            | true ↦ h start (got ++ front_part text) true
            | false ↦ with_one (numbered_line start got fed text) (next after [] false)
                ∙ ap (option_map (λ more. (got ++ before_hash text) ∷ more)) (h after [] false)
          ]
    ]

end_alike : (got : List ℕ) (inside : Bool) → texts_only (numbered_end inside) ≡ at_end got inside
end_alike got true = refl
end_alike got false = refl

numbered_step : (line start : ℕ) (got piece : List ℕ) (inside : Bool) (b : ℕ) (bs : List ℕ) → numbered_152 line start got piece inside (b ∷ bs) ≡
    cond (eqb b 10) (numbered_piece start got piece true inside (line + 1) (λ s g i. numbered_152 (line + 1) s g [] i bs))
    (cond (eqb (length got + length piece + 1) 1023) (numbered_piece start got (piece ++ b ∷ []) false inside line (λ s g i. numbered_152 line s g [] i bs))
    (numbered_152 line start got (piece ++ b ∷ []) inside bs))
unfolding numbered_152
numbered_step line start got [] inside b bs = refl
numbered_step line start got (p ∷ piece) inside b bs = refl

plain_step : (got piece : List ℕ) (inside : Bool) (b : ℕ) (bs : List ℕ) → buffered got piece inside (b ∷ bs) ≡
    cond (eqb b 10) (piece_read got piece inside (λ g i. buffered g [] i bs))
    (cond (eqb (length got + length piece + 1) 1023) (piece_read got (piece ++ b ∷ []) inside (λ g i. buffered g [] i bs))
    (buffered got (piece ++ b ∷ []) inside bs))
unfolding buffered
plain_step got [] inside b bs = refl
plain_step got (p ∷ piece) inside b bs = refl

three : (t u : Bool) (x y z : Option (List NumberedLine)) (k l m : Option (List (List ℕ))) → texts_only x ≡ k → texts_only y ≡ l → texts_only z ≡ m →
    texts_only (cond t x (cond u y z)) ≡ cond t k (cond u l m)
three true u x y z k l m f g h = f
three false true x y z k l m f g h = g
three false false x y z k l m f g h = h

buffer_alike : (line start : ℕ) (got piece : List ℕ) (inside : Bool) (bytes : List ℕ) →
    texts_only (numbered_152 line start got piece inside bytes) ≡ buffered got piece inside bytes
unfolding numbered_152 buffered
buffer_alike line start got [] inside [] = end_alike got inside
buffer_alike line start got (p ∷ piece) inside [] =
    piece_alike start (line + 1) got (p ∷ piece) false inside (λ s g i. numbered_end i) at_end (λ s g i. end_alike g i)
buffer_alike line start got piece inside (b ∷ bs) =
    ap texts_only (numbered_step line start got piece inside b bs)
    ∙ three (eqb b 10) (eqb (length got + length piece + 1) 1023) _ _ _ _ _ _
    (piece_alike start (line + 1) got piece true inside (λ s g i. numbered_152 (line + 1) s g [] i bs) (λ g i. buffered g [] i bs)
    (λ s g i. buffer_alike (line + 1) s g [] i bs))
    (piece_alike start line got (piece ++ b ∷ []) false inside (λ s g i. numbered_152 line s g [] i bs) (λ g i. buffered g [] i bs)
    (λ s g i. buffer_alike line s g [] i bs))
    (buffer_alike line start got (piece ++ b ∷ []) inside bs)
    ∙ sym (plain_step got piece inside b bs)

-- 1.7.0

goes_alike : (inside : Bool) (got part : List ℕ) (o : Option (List (List ℕ))) → (inside ≡ false → got ≡ []) →
    option_map (onto_line (got ++ part)) o ≡ with_got inside got (option_map (onto_line part) o)
goes_alike true got part None none = refl
goes_alike true got part (Some ls) none = ap (λ (r : List (List ℕ)). Some r) (sym (onto_twice got part ls))
goes_alike false got part o none = ap (λ (r : List ℕ). option_map (onto_line (r ++ part)) o) (none refl)

ends_alike : (inside : Bool) (got line : List ℕ) (o : Option (List (List ℕ))) → (inside ≡ false → got ≡ []) →
    option_map (λ more. (got ++ line) ∷ more) o ≡ with_got inside got (option_map (λ more. line ∷ more) o)
ends_alike true got line None none = refl
ends_alike true got line (Some ls) none = refl
ends_alike false got line o none = ap (λ (r : List ℕ). option_map (λ more. (r ++ line) ∷ more) o) (none refl)

passes : (start : ℕ) (line : List ℕ) (fed : Bool) (o : Option (List NumberedLine)) (p : Option (List (List ℕ))) → texts_only o ≡ option_map not_empty p →
    texts_only (option_map (with_line start line fed) o) ≡ option_map not_empty (option_map (λ more. line ∷ more) p)
unfolding not_empty
passes start [] fed None None h = refl
passes start [] fed None (Some ls) h = absurd (cc)
passes start [] fed (Some more) None h = absurd (cc)
passes start [] fed (Some more) (Some ls) h = h
passes start (b ∷ line) fed None None h = refl
passes start (b ∷ line) fed None (Some ls) h = absurd (cc)
passes start (b ∷ line) fed (Some more) None h = absurd (cc)
passes start (b ∷ line) fed (Some more) (Some ls) h = ap (option_map (λ (r : List (List ℕ)). (b ∷ line) ∷ r)) h

last_alike : (inside : Bool) (got : List ℕ) → (inside ≡ false → got ≡ []) →
    texts_only (numbered_end inside) ≡ option_map not_empty (with_got inside got (lines_170 inside []))
unfolding lines_170 not_empty
last_alike true got none = refl
last_alike false got none = refl

next_numbered : (closed : Bool) (line start : ℕ) (got : List ℕ) (inside : Bool) (text : List ℕ) (lines : List (List ℕ)) →
    numbered_170 closed line start got inside (text ∷ lines) ≡
    cond (goes_on text) (numbered_170 closed (line + 1) start (got ++ without_start_blanks (front_part text)) true lines)
    (option_map (with_line start (got ++ without_start_blanks (before_hash text)) (is_fed_before closed lines && not (has_hash text)))
    (numbered_170 closed (line + 1) (line + 1) [] false lines))
unfolding numbered_170
next_numbered closed line start got inside text lines = refl

next_plain : (inside : Bool) (text : List ℕ) (lines : List (List ℕ)) → lines_170 inside (text ∷ lines) ≡
    cond (goes_on text) (option_map (onto_line (without_start_blanks (front_part text))) (lines_170 true lines))
    (option_map (λ more. without_start_blanks (before_hash text) ∷ more) (lines_170 false lines))
unfolding lines_170
next_plain inside text lines = refl

no_numbered : (closed : Bool) (line start : ℕ) (got : List ℕ) (inside : Bool) → numbered_170 closed line start got inside [] ≡ numbered_end inside
unfolding numbered_170
no_numbered closed line start got inside = refl

lines_alike : (closed : Bool) (line start : ℕ) (got : List ℕ) (inside : Bool) (lines : List (List ℕ)) → (inside ≡ false → got ≡ []) →
    texts_only (numbered_170 closed line start got inside lines) ≡ option_map not_empty (with_got inside got (lines_170 inside lines))
lines_alike closed line start got inside [] none = ap texts_only (no_numbered closed line start got inside) ∙ last_alike inside got none
lines_alike closed line start got inside (text ∷ lines) none =
    ap texts_only (next_numbered closed line start got inside text lines)
    ∙ elim (goes_on text) as (λ (t : Bool).
    texts_only (cond t (numbered_170 closed (line + 1) start (got ++ without_start_blanks (front_part text)) true lines)
    (option_map (with_line start (got ++ without_start_blanks (before_hash text)) (is_fed_before closed lines && not (has_hash text)))
    (numbered_170 closed (line + 1) (line + 1) [] false lines)))
    ≡ option_map not_empty (with_got inside got (cond t (option_map (onto_line (without_start_blanks (front_part text))) (lines_170 true lines))
    (option_map (λ more. without_start_blanks (before_hash text) ∷ more) (lines_170 false lines))))) [
      | true ↦ lines_alike closed (line + 1) start (got ++ without_start_blanks (front_part text)) true lines (λ e. absurd (cc))
          ∙ ap (option_map not_empty) (goes_alike inside got (without_start_blanks (front_part text)) (lines_170 true lines) none)
      | false ↦ passes start (got ++ without_start_blanks (before_hash text)) (is_fed_before closed lines && not (has_hash text))
          (numbered_170 closed (line + 1) (line + 1) [] false lines) (lines_170 false lines)
          (lines_alike closed (line + 1) (line + 1) [] false lines (λ e. refl))
          ∙ ap (option_map not_empty) (ends_alike inside got (without_start_blanks (before_hash text)) (lines_170 false lines) none)
    ]
    ∙ ap (λ (o : Option (List (List ℕ))). option_map not_empty (with_got inside got o)) (sym (next_plain inside text lines))

pub texts_152 : (bytes : List ℕ) → texts_only (numbered_lines Older bytes) ≡ buffered [] [] false bytes
texts_152 bytes = buffer_alike 1 1 [] [] false bytes

pub texts_170 : (bytes : List ℕ) → texts_only (numbered_lines Newer bytes) ≡ option_map not_empty (lines_170 false (physical_lines bytes))
texts_170 bytes = lines_alike (ends_in_feed bytes) 1 1 [] false (physical_lines bytes) (λ e. refl)

-- RULES

readings_alike : (release : Release) (form : Form) (lines : List NumberedLine) →
    map (λ p. p.1) (map (numbered_reading release form) lines) ≡ map (line_reading release form) (map line_words lines)
readings_alike release form [] = refl
readings_alike release form (line ∷ lines) =
    ap (λ (rs : List Reading). line_reading release form (line_words line) ∷ rs) (readings_alike release form lines)

rules_alike : (release : Release) (form : Form) (o : Option (List NumberedLine)) →
    option_map (map (λ p. p.1)) (option_map (map (numbered_reading release form)) o) ≡
    option_map (map (line_reading release form)) (option_map (map line_words) o)
rules_alike release form None = refl
rules_alike release form (Some lines) = ap (λ (rs : List Reading). Some rs) (readings_alike release form lines)

-- the rules of a release, with numbers and without
pub unnumbered : (release : Release) (form : Form) (bytes : List ℕ) →
    option_map (map (λ p. p.1)) (numbered_rules release form bytes) ≡ rules_by release form bytes
unfolding rules_152 rules_170
unnumbered Older form bytes = rules_alike Older form (numbered_lines Older bytes)
unnumbered Newer form bytes = rules_alike Newer form (numbered_lines Newer bytes)
