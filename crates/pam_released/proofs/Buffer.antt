-- Where no line is too long, the buffer does not show.
use Rattle.std.proofs.Common.{◌≡◌, ◌≤◌, ◌+◌, ◌++◌, ◌∙◌, ℕ, suc, Bool, true, false, List, [], ◌∷◌, length, cond, eqb, ap, sym, refl, Option, Some, None}
use Rattle.std.proofs.Common.{append-nil, append_assoc, arith}
use Rattle.std.specs.Prelude.{nat_lt}
use Rattle.std.specs.List.{list_all, onto_first}
use Rattle.std.specs.Option.{option_map}
use Rattle.std.proofs.lemmas.Bool.{eqb-true, or_parts, ltb-false, ne_eqb, true≢false}
use Rattle.pam_released.specs.Lines.{before_hash, front_part, goes_on, is_space_or_tab, is_blank_line, last_is_space, lines_152, onto_line, physical_lines}
use Rattle.pam_released.specs.Lines.{without_end_blanks}
use Rattle.pam_released.proofs.LineTests.{is_too_long}
use Rattle.pam_released.specs.Buffer.{at_end, buffered, piece_read}

-- lines after a piece of the first of them
abbrev onto_piece : List ℕ → List (List ℕ) → List (List ℕ)
onto_piece [] lines = lines
onto_piece (p ∷ piece) lines = onto_line (p ∷ piece) lines

-- what was read, after what was got before it inside a line
abbrev pub with_got : Bool → List ℕ → Option (List (List ℕ)) → Option (List (List ℕ))
with_got true got read = option_map (onto_line got) read
with_got false got read = read

pub onto_twice : (s t : List ℕ) (ls : List (List ℕ)) → onto_line s (onto_line t ls) ≡ onto_line (s ++ t) ls
onto_twice s t [] = refl
onto_twice s t (l ∷ ls) = ap (λ (r : List ℕ). r ∷ ls) (sym (append_assoc s t l))

onto_nothing : (l : List ℕ) (ls : List (List ℕ)) → onto_piece l ([] ∷ ls) ≡ l ∷ ls
onto_nothing [] ls = refl
onto_nothing (p ∷ l) ls = ap (λ (r : List ℕ). (p ∷ r) ∷ ls) (append-nil l)

onto_byte : (piece : List ℕ) (b : ℕ) (ls : List (List ℕ)) → onto_piece piece (onto_first b ls) ≡ onto_piece (piece ++ b ∷ []) ls
onto_byte [] b [] = refl
onto_byte [] b (l ∷ ls) = refl
onto_byte (p ∷ piece) b [] = refl
onto_byte (p ∷ piece) b (l ∷ ls) = ap (λ (r : List ℕ). (p ∷ r) ∷ ls) (sym (append_assoc piece (b ∷ []) l))

map_twice : (s t : List ℕ) (o : Option (List (List ℕ))) → option_map (onto_line s) (option_map (onto_line t) o) ≡ option_map (onto_line (s ++ t)) o
map_twice s t None = refl
map_twice s t (Some ls) = ap (λ (r : List (List ℕ)). Some r) (onto_twice s t ls)

map_first : (s l : List ℕ) (o : Option (List (List ℕ))) → option_map (onto_line s) (option_map (λ more. l ∷ more) o) ≡ option_map (λ more. (s ++ l) ∷ more) o
map_first s l None = refl
map_first s l (Some ls) = refl

-- one line, after what goes on
line_step : (got l : List ℕ) (inside : Bool) (ls : List (List ℕ)) → (inside ≡ false → got ≡ []) →
    (next : List ℕ → Bool → Option (List (List ℕ))) →
    (is_blank_line l ≡ true → next got inside ≡ with_got inside got (lines_152 inside ls)) →
    (is_blank_line l ≡ false → goes_on l ≡ true → next (got ++ front_part l) true ≡ option_map (onto_line (got ++ front_part l)) (lines_152 true ls)) →
    (is_blank_line l ≡ false → goes_on l ≡ false → next [] false ≡ lines_152 false ls) →
    piece_read got l inside next ≡ with_got inside got (lines_152 inside (l ∷ ls))
unfolding lines_152
line_step got l inside ls none next e g f =
    elim (is_blank_line l) as (λ (t : Bool). is_blank_line l ≡ t →
    cond t (next got inside) (cond (goes_on l) (next (got ++ front_part l) true) (option_map (λ more. (got ++ before_hash l) ∷ more) (next [] false)))
    ≡ with_got inside got (cond t (lines_152 inside ls) (cond (goes_on l) (option_map (onto_line (front_part l)) (lines_152 true ls))
    (option_map (λ more. before_hash l ∷ more) (lines_152 false ls))))) [
      | true ↦ λ h. e h
      | false ↦ λ h. elim (goes_on l) as (λ (t : Bool). goes_on l ≡ t →
          cond t (next (got ++ front_part l) true) (option_map (λ more. (got ++ before_hash l) ∷ more) (next [] false))
          ≡ with_got inside got (cond t (option_map (onto_line (front_part l)) (lines_152 true ls))
          (option_map (λ more. before_hash l ∷ more) (lines_152 false ls)))) [
            | true ↦ λ k. g h k ∙ goes inside none
            | false ↦ λ k. ap (option_map (λ more. (got ++ before_hash l) ∷ more)) (f h k) ∙ ends inside none
          ] refl
    ] refl
  where
    goes : (i : Bool) → (i ≡ false → got ≡ []) →
        option_map (onto_line (got ++ front_part l)) (lines_152 true ls) ≡ with_got i got (option_map (onto_line (front_part l)) (lines_152 true ls))
    goes true n = sym (map_twice got (front_part l) (lines_152 true ls))
    goes false n = ap (λ (r : List ℕ). option_map (onto_line (r ++ front_part l)) (lines_152 true ls)) (n refl)

    ends : (i : Bool) → (i ≡ false → got ≡ []) →
        option_map (λ more. (got ++ before_hash l) ∷ more) (lines_152 false ls) ≡
        with_got i got (option_map (λ more. before_hash l ∷ more) (lines_152 false ls))
    ends true n = sym (map_first got (before_hash l) (lines_152 false ls))
    ends false n = ap (λ (r : List ℕ). option_map (λ more. (r ++ before_hash l) ∷ more) (lines_152 false ls)) (n refl)

-- LENGTHS

space_length : (l : List ℕ) → length (last_is_space l) ≡ length l
unfolding last_is_space
space_length [] = refl
space_length (b ∷ []) = refl
space_length (b ∷ c ∷ l) = ap suc (space_length (c ∷ l))

trimmed_length : (l : List ℕ) → length (without_end_blanks l) ≤ length l
unfolding without_end_blanks
trimmed_length [] = omega arith
trimmed_length (b ∷ l) =
    let more : length (without_end_blanks l) ≤ length l = trimmed_length l in
    elim (list_all is_space_or_tab (b ∷ l)) as (λ (t : Bool). length (cond t [] (b ∷ without_end_blanks l)) ≤ length (b ∷ l)) [
      | true ↦ omega arith
      | false ↦ omega (arith, more)
    ]

front_length : (l : List ℕ) → length (front_part l) ≤ length l
front_length l =
    let same : length (front_part l) ≡ length (without_end_blanks l) = space_length (without_end_blanks l) in
    omega (arith, same, trimmed_length l)

append_length : (s t : List ℕ) → length (s ++ t) ≡ length s + length t
append_length [] t = omega arith
append_length (b ∷ s) t = let more : length (s ++ t) ≡ length s + length t = append_length s t in omega (arith, more)

abbrev used_after : ℕ → List ℕ → ℕ
used_after used l = cond (is_blank_line l) used (cond (goes_on l) (used + length l + 1) 0)

long_parts : (used : ℕ) (l : List ℕ) (ls : List (List ℕ)) → is_too_long used (l ∷ ls) ≡ false →
    (used + length l + 1 ≤ 1023) × (is_too_long (used_after used l) ls ≡ false)
unfolding is_too_long
long_parts used l ls h =
    let parts = or_parts (nat_lt 1023 (used + length l + 1)) (is_too_long (used_after used l) ls) h in
    (ltb-false 1023 (used + length l + 1) parts.0, parts.1)

-- a piece of the first line is not too long
piece_fits : (used : ℕ) (p : ℕ) (piece : List ℕ) (ls : List (List ℕ)) → is_too_long used (onto_line (p ∷ piece) ls) ≡ false →
    used + length (p ∷ piece) + 1 ≤ 1023
piece_fits used p piece [] h = (long_parts used (p ∷ piece) [] h).0
piece_fits used p piece (l ∷ ls) h =
    let fits : used + length ((p ∷ piece) ++ l) + 1 ≤ 1023 = (long_parts used ((p ∷ piece) ++ l) ls h).0 in
    omega (arith, fits, append_length (p ∷ piece) l)

pushed_fits : (used : ℕ) (piece : List ℕ) (b : ℕ) (ls : List (List ℕ)) → is_too_long used (onto_piece (piece ++ b ∷ []) ls) ≡ false →
    used + length piece + 2 ≤ 1023
pushed_fits used [] b ls h = let fits : used + length (b ∷ []) + 1 ≤ 1023 = piece_fits used b [] ls h in omega (arith, fits)
pushed_fits used (p ∷ piece) b ls h =
    let fits : used + length (p ∷ piece ++ b ∷ []) + 1 ≤ 1023 = piece_fits used p (piece ++ b ∷ []) ls h in
    omega (arith, fits, append_length (p ∷ piece) (b ∷ []))

last_piece : (got : List ℕ) (p : ℕ) (piece : List ℕ) (inside : Bool) → buffered got (p ∷ piece) inside [] ≡ piece_read got (p ∷ piece) inside at_end
unfolding buffered
last_piece got p piece inside = refl

byte_step : (got piece : List ℕ) (inside : Bool) (b : ℕ) (bs : List ℕ) → buffered got piece inside (b ∷ bs) ≡
    cond (eqb b 10) (piece_read got piece inside (λ g i. buffered g [] i bs))
    (cond (eqb (length got + length piece + 1) 1023) (piece_read got (piece ++ b ∷ []) inside (λ g i. buffered g [] i bs))
    (buffered got (piece ++ b ∷ []) inside bs))
unfolding buffered
byte_step got [] inside b bs = refl
byte_step got (p ∷ piece) inside b bs = refl

end_alike : (got : List ℕ) (inside : Bool) → at_end got inside ≡ with_got inside got (lines_152 inside [])
unfolding lines_152
end_alike got true = refl
end_alike got false = refl

nothing_yet : (got : List ℕ) (inside : Bool) → buffered got [] inside [] ≡ with_got inside got (lines_152 inside [])
unfolding buffered
nothing_yet got inside = end_alike got inside

after_empty : (used : ℕ) (l : List ℕ) (ls : List (List ℕ)) → is_blank_line l ≡ true → is_too_long (used_after used l) ls ≡ false → is_too_long used ls ≡ false
after_empty used l ls e h = ap (λ (t : Bool). is_too_long (cond t used (cond (goes_on l) (used + length l + 1) 0)) ls) (sym e) ∙ h

lines_feed : (bs : List ℕ) → physical_lines (10 ∷ bs) ≡ [] ∷ physical_lines bs
unfolding physical_lines
lines_feed bs = refl

lines_byte : (b : ℕ) (bs : List ℕ) → eqb b 10 ≡ false → physical_lines (b ∷ bs) ≡ onto_first b (physical_lines bs)
unfolding physical_lines
lines_byte b bs h = rw h refl

no_bytes : physical_lines [] ≡ []
unfolding physical_lines
no_bytes = refl

used_goes : (used : ℕ) (l : List ℕ) (ls : List (List ℕ)) → is_blank_line l ≡ false → goes_on l ≡ true → is_too_long (used_after used l) ls ≡ false →
    is_too_long (used + length l + 1) ls ≡ false
used_goes used l ls e g h =
    sym (ap (λ (t : Bool). is_too_long (cond t used (cond (goes_on l) (used + length l + 1) 0)) ls) e
    ∙ ap (λ (t : Bool). is_too_long (cond t (used + length l + 1) 0) ls) g) ∙ h

used_ends : (used : ℕ) (l : List ℕ) (ls : List (List ℕ)) → is_blank_line l ≡ false → goes_on l ≡ false → is_too_long (used_after used l) ls ≡ false →
    is_too_long 0 ls ≡ false
used_ends used l ls e g h =
    sym (ap (λ (t : Bool). is_too_long (cond t used (cond (goes_on l) (used + length l + 1) 0)) ls) e
    ∙ ap (λ (t : Bool). is_too_long (cond t (used + length l + 1) 0) ls) g) ∙ h

pub read_alike : (used : ℕ) (got piece : List ℕ) (inside : Bool) (bs : List ℕ) → length got ≤ used → (inside ≡ false → got ≡ []) →
    is_too_long used (onto_piece piece (physical_lines bs)) ≡ false →
    buffered got piece inside bs ≡ with_got inside got (lines_152 inside (onto_piece piece (physical_lines bs)))
read_alike used got [] inside [] low none h = nothing_yet got inside ∙ ap (λ (ls : List (List ℕ)). with_got inside got (lines_152 inside ls)) (sym no_bytes)
read_alike used got (p ∷ piece) inside [] low none h =
    last_piece got p piece inside
    ∙ line_step got (p ∷ piece) inside [] none at_end (λ e. end_alike got inside) (λ e g. end_alike (got ++ front_part (p ∷ piece)) true)
    (λ e g. end_alike [] false)
    ∙ ap (λ (ls : List (List ℕ)). with_got inside got (lines_152 inside (onto_line (p ∷ piece) ls))) (sym no_bytes)
read_alike used got piece inside (b ∷ bs) low none h =
    byte_step got piece inside b bs ∙
    elim (eqb b 10) as (λ (t : Bool). eqb b 10 ≡ t →
    cond t (piece_read got piece inside (λ g i. buffered g [] i bs))
    (cond (eqb (length got + length piece + 1) 1023) (piece_read got (piece ++ b ∷ []) inside (λ g i. buffered g [] i bs))
    (buffered got (piece ++ b ∷ []) inside bs))
    ≡ with_got inside got (lines_152 inside (onto_piece piece (physical_lines (b ∷ bs))))) [
      | true ↦ λ f.
          let feed : b ≡ 10 = eqb-true b 10 f in
          let same : onto_piece piece (physical_lines (b ∷ bs)) ≡ piece ∷ physical_lines bs =
          ap (λ (c : ℕ). onto_piece piece (physical_lines (c ∷ bs))) feed ∙ ap (onto_piece piece) (lines_feed bs) ∙ onto_nothing piece (physical_lines bs) in
          let parts = long_parts used piece (physical_lines bs) (ap (is_too_long used) (sym same) ∙ h) in
          line_step got piece inside (physical_lines bs) none (λ g i. buffered g [] i bs)
          (λ e. read_alike used got [] inside bs low none (after_empty used piece (physical_lines bs) e parts.1))
          (λ e g. read_alike (used + length piece + 1) (got ++ front_part piece) [] true bs
          (omega (arith, append_length got (front_part piece), front_length piece)) (λ k. absurd (true≢false k))
          (used_goes used piece (physical_lines bs) e g parts.1))
          (λ e g. read_alike 0 [] [] false bs (omega arith) (λ k. refl) (used_ends used piece (physical_lines bs) e g parts.1))
          ∙ ap (λ (ls : List (List ℕ)). with_got inside got (lines_152 inside ls)) (sym same)
      | false ↦ λ f.
          let same : onto_piece piece (physical_lines (b ∷ bs)) ≡ onto_piece (piece ++ b ∷ []) (physical_lines bs) =
          ap (onto_piece piece) (lines_byte b bs f) ∙ onto_byte piece b (physical_lines bs) in
          let short : is_too_long used (onto_piece (piece ++ b ∷ []) (physical_lines bs)) ≡ false = ap (is_too_long used) (sym same) ∙ h in
          let fits : used + length piece + 2 ≤ 1023 = pushed_fits used piece b (physical_lines bs) short in
          ap (λ (t : Bool). cond t (piece_read got (piece ++ b ∷ []) inside (λ g i. buffered g [] i bs)) (buffered got (piece ++ b ∷ []) inside bs))
          (ne_eqb (length got + length piece + 1) 1023 (λ e. absurd (omega (arith, e, fits, low))))
          ∙ read_alike used got (piece ++ b ∷ []) inside bs low none short
          ∙ ap (λ (ls : List (List ℕ)). with_got inside got (lines_152 inside ls)) (sym same)
    ] refl

pub unseen : (bytes : List ℕ) → is_too_long 0 (physical_lines bytes) ≡ false → buffered [] [] false bytes ≡ lines_152 false (physical_lines bytes)
unseen bytes h = read_alike 0 [] [] false bytes (omega arith) (λ e. refl) h
