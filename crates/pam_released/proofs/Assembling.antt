-- The logical lines of a release, piece by piece.
use Rattle.std.proofs.Common.{◌≡◌, ◌<◌, ◌≤◌, ◌+◌, ◌++◌, ◌∙◌, ℕ, zero, suc, Bool, true, false, not, List, [], ◌∷◌, length, take, drop, cond, eqb, ap, sym, refl}
use Rattle.std.proofs.Common.{arith, append-nil, append_assoc, one-add}
use Rattle.std.specs.List.{prefix_len}
use Rattle.std.proofs.lemmas.Bool.{eqb-true, ne_eqb, eq-eqb, true≢false}
use Rattle.pam_released.specs.Lines.{front_part, is_space_or_tab, last_is_space, without_end_blanks}
use Rattle.pam_released.specs.Lines.{without_start_blanks}
use Rattle.pam_released.specs.Numbered.{numbered_152, numbered_end, numbered_piece}

-- BLANKS

pub start_dropped : (b : ℕ) (bs : List ℕ) → is_space_or_tab b ≡ true → without_start_blanks (b ∷ bs) ≡ without_start_blanks bs
unfolding without_start_blanks
start_dropped b bs h = ap (λ (t : Bool). cond t (without_start_blanks bs) (b ∷ bs)) h

pub start_kept : (b : ℕ) (bs : List ℕ) → is_space_or_tab b ≡ false → without_start_blanks (b ∷ bs) ≡ b ∷ bs
unfolding without_start_blanks
start_kept b bs h = ap (λ (t : Bool). cond t (without_start_blanks bs) (b ∷ bs)) h

pub start_none : without_start_blanks [] ≡ []
unfolding without_start_blanks
start_none = refl

pub space_last : (front : List ℕ) (b : ℕ) → last_is_space (front ++ b ∷ []) ≡ front ++ 32 ∷ []
unfolding last_is_space
space_last [] b = refl
space_last (a ∷ []) b = refl
space_last (a ∷ c ∷ front) b = ap (λ (r : List ℕ). a ∷ r) (space_last (c ∷ front) b)

pub no_space : last_is_space [] ≡ []
unfolding last_is_space
no_space = refl

pub trimmed_none : (front : List ℕ) → without_start_blanks front ≡ [] → without_start_blanks (front ++ 32 ∷ []) ≡ []
unfolding without_start_blanks
trimmed_none [] h = refl
trimmed_none (b ∷ front) h =
    elim (is_space_or_tab b) as (λ (t : Bool). cond t (without_start_blanks front) (b ∷ front) ≡ [] →
    cond t (without_start_blanks (front ++ 32 ∷ [])) (b ∷ front ++ 32 ∷ []) ≡ []) [
      | true ↦ λ e. trimmed_none front e
      | false ↦ λ e. absurd (cc)
    ] h

pub trimmed_some : (front : List ℕ) → (without_start_blanks front ≡ [] → ⊥) →
    without_start_blanks (front ++ 32 ∷ []) ≡ without_start_blanks front ++ 32 ∷ []
unfolding without_start_blanks
trimmed_some [] h = absurd (h refl)
trimmed_some (b ∷ front) h =
    elim (is_space_or_tab b) as (λ (t : Bool). (cond t (without_start_blanks front) (b ∷ front) ≡ [] → ⊥) →
    cond t (without_start_blanks (front ++ 32 ∷ [])) (b ∷ front ++ 32 ∷ []) ≡ cond t (without_start_blanks front) (b ∷ front) ++ 32 ∷ []) [
      | true ↦ λ e. trimmed_some front e
      | false ↦ λ e. refl
    ] h

-- PARTS OF A LINE

pub nothing_gone : (text line trimmed : List ℕ) → trimmed ≡ without_end_blanks line → trimmed ≡ [] → text ≡ text ++ front_part line
nothing_gone text line trimmed is none =
    sym (ap (λ (r : List ℕ). text ++ last_is_space r) (sym is ∙ none) ∙ ap (λ (r : List ℕ). text ++ r) no_space ∙ append-nil text)

spaced : (line trimmed front : List ℕ) (last : ℕ) → trimmed ≡ without_end_blanks line → trimmed ≡ front ++ last ∷ [] → front_part line ≡ front ++ 32 ∷ []
spaced line trimmed front last is split = ap last_is_space (sym is ∙ split) ∙ space_last front last

pub front_pushed : (text more whole line trimmed front : List ℕ) (last : ℕ) → trimmed ≡ without_end_blanks line → trimmed ≡ front ++ last ∷ [] →
    more ≡ text ++ front → whole ≡ more ++ 32 ∷ [] → whole ≡ text ++ front_part line
front_pushed text more whole line trimmed front last is split pushed one =
    one ∙ ap (λ (r : List ℕ). r ++ 32 ∷ []) pushed ∙ append_assoc text front (32 ∷ [])
    ∙ ap (λ (r : List ℕ). text ++ r) (sym (spaced line trimmed front last is split))

pub nothing_trimmed : (text line trimmed : List ℕ) → trimmed ≡ without_end_blanks line → trimmed ≡ [] → text ≡ text ++ without_start_blanks (front_part line)
nothing_trimmed text line trimmed is none =
    sym (ap (λ (r : List ℕ). text ++ without_start_blanks (last_is_space r)) (sym is ∙ none)
    ∙ ap (λ (r : List ℕ). text ++ without_start_blanks r) no_space ∙ ap (λ (r : List ℕ). text ++ r) start_none ∙ append-nil text)

pub blank_front : (text line trimmed front rest : List ℕ) (last : ℕ) → trimmed ≡ without_end_blanks line → trimmed ≡ front ++ last ∷ [] →
    rest ≡ without_start_blanks front → rest ≡ [] → text ≡ text ++ without_start_blanks (front_part line)
blank_front text line trimmed front rest last is split cut none =
    sym (ap (λ (r : List ℕ). text ++ without_start_blanks r) (spaced line trimmed front last is split)
    ∙ ap (λ (r : List ℕ). text ++ r) (trimmed_none front (sym cut ∙ none)) ∙ append-nil text)

pub trimmed_pushed : (text more whole line trimmed front rest : List ℕ) (last : ℕ) → trimmed ≡ without_end_blanks line → trimmed ≡ front ++ last ∷ [] →
    rest ≡ without_start_blanks front → (rest ≡ [] → ⊥) → more ≡ text ++ rest → whole ≡ more ++ 32 ∷ [] →
    whole ≡ text ++ without_start_blanks (front_part line)
trimmed_pushed text more whole line trimmed front rest last is split cut some pushed one =
    one ∙ ap (λ (r : List ℕ). r ++ 32 ∷ []) pushed ∙ append_assoc text rest (32 ∷ [])
    ∙ ap (λ (r : List ℕ). text ++ (r ++ 32 ∷ [])) cut
    ∙ ap (λ (r : List ℕ). text ++ r) (sym (trimmed_some front (λ e. some (cut ∙ e))))
    ∙ ap (λ (r : List ℕ). text ++ without_start_blanks r) (sym (spaced line trimmed front last is split))

-- PIECES

byte_step : (line start : ℕ) (got piece : List ℕ) (inside : Bool) (b : ℕ) (bs : List ℕ) → numbered_152 line start got piece inside (b ∷ bs) ≡
    cond (eqb b 10) (numbered_piece start got piece true inside (line + 1) (λ s g i. numbered_152 (line + 1) s g [] i bs))
    (cond (eqb (length got + length piece + 1) 1023) (numbered_piece start got (piece ++ b ∷ []) false inside line (λ s g i. numbered_152 line s g [] i bs))
    (numbered_152 line start got (piece ++ b ∷ []) inside bs))
unfolding numbered_152
byte_step line start got [] inside b bs = refl
byte_step line start got (p ∷ piece) inside b bs = refl

feed_step : (line start : ℕ) (got piece : List ℕ) (inside : Bool) (b : ℕ) (bs : List ℕ) → eqb b 10 ≡ true →
    numbered_152 line start got piece inside (b ∷ bs) ≡
    numbered_piece start got piece true inside (line + 1) (λ s g i. numbered_152 (line + 1) s g [] i bs)
feed_step line start got piece inside b bs h =
    byte_step line start got piece inside b bs
    ∙ ap (λ (t : Bool). cond t (numbered_piece start got piece true inside (line + 1) (λ s g i. numbered_152 (line + 1) s g [] i bs))
    (cond (eqb (length got + length piece + 1) 1023) (numbered_piece start got (piece ++ b ∷ []) false inside line (λ s g i. numbered_152 line s g [] i bs))
    (numbered_152 line start got (piece ++ b ∷ []) inside bs))) h

full_step : (line start : ℕ) (got piece : List ℕ) (inside : Bool) (b : ℕ) (bs : List ℕ) → eqb b 10 ≡ false → length got + length piece + 1 ≡ 1023 →
    numbered_152 line start got piece inside (b ∷ bs) ≡
    numbered_piece start got (piece ++ b ∷ []) false inside line (λ s g i. numbered_152 line s g [] i bs)
full_step line start got piece inside b bs h e =
    byte_step line start got piece inside b bs
    ∙ ap (λ (t : Bool). cond t (numbered_piece start got piece true inside (line + 1) (λ s g i. numbered_152 (line + 1) s g [] i bs))
    (cond (eqb (length got + length piece + 1) 1023) (numbered_piece start got (piece ++ b ∷ []) false inside line (λ s g i. numbered_152 line s g [] i bs))
    (numbered_152 line start got (piece ++ b ∷ []) inside bs))) h
    ∙ ap (λ (t : Bool). cond t (numbered_piece start got (piece ++ b ∷ []) false inside line (λ s g i. numbered_152 line s g [] i bs))
    (numbered_152 line start got (piece ++ b ∷ []) inside bs)) (eq-eqb (length got + length piece + 1) 1023 e)

more_step : (line start : ℕ) (got piece : List ℕ) (inside : Bool) (b : ℕ) (bs : List ℕ) → eqb b 10 ≡ false → (length got + length piece + 1 ≡ 1023 → ⊥) →
    numbered_152 line start got piece inside (b ∷ bs) ≡ numbered_152 line start got (piece ++ b ∷ []) inside bs
more_step line start got piece inside b bs h e =
    byte_step line start got piece inside b bs
    ∙ ap (λ (t : Bool). cond t (numbered_piece start got piece true inside (line + 1) (λ s g i. numbered_152 (line + 1) s g [] i bs))
    (cond (eqb (length got + length piece + 1) 1023) (numbered_piece start got (piece ++ b ∷ []) false inside line (λ s g i. numbered_152 line s g [] i bs))
    (numbered_152 line start got (piece ++ b ∷ []) inside bs))) h
    ∙ ap (λ (t : Bool). cond t (numbered_piece start got (piece ++ b ∷ []) false inside line (λ s g i. numbered_152 line s g [] i bs))
    (numbered_152 line start got (piece ++ b ∷ []) inside bs)) (ne_eqb (length got + length piece + 1) 1023 e)

pushed_length : (piece : List ℕ) (b : ℕ) → length (piece ++ b ∷ []) ≡ length piece + 1
pushed_length [] b = refl
pushed_length (p ∷ piece) b = let more : length (piece ++ b ∷ []) ≡ length piece + 1 = pushed_length piece b in omega (arith, more)

feeds_first : (b : ℕ) (bs : List ℕ) → eqb b 10 ≡ true → prefix_len (λ c. not (eqb c 10)) (b ∷ bs) ≡ 0
feeds_first b bs h = ap (λ (t : Bool). cond (not t) (1 + prefix_len (λ c. not (eqb c 10)) bs) 0) h

feeds_later : (b : ℕ) (bs : List ℕ) → eqb b 10 ≡ false → prefix_len (λ c. not (eqb c 10)) (b ∷ bs) ≡ 1 + prefix_len (λ c. not (eqb c 10)) bs
feeds_later b bs h = ap (λ (t : Bool). cond (not t) (1 + prefix_len (λ c. not (eqb c 10)) bs) 0) h

-- the piece fills the buffer
full : (line start : ℕ) (got piece : List ℕ) (inside : Bool) (n : ℕ) (bytes : List ℕ) → suc n ≤ prefix_len (λ b. not (eqb b 10)) bytes →
    length got + length piece + suc n ≡ 1023 → numbered_152 line start got piece inside bytes ≡
    numbered_piece start got (piece ++ take (suc n) bytes) false inside line (λ s g i. numbered_152 line s g [] i (drop (suc n) bytes))
full line start got piece inside n [] low e = absurd (omega (arith, low))
full line start got piece inside zero (b ∷ bs) low e =
    elim (eqb b 10) as (λ (t : Bool). eqb b 10 ≡ t → numbered_152 line start got piece inside (b ∷ bs) ≡
    numbered_piece start got (piece ++ b ∷ []) false inside line (λ s g i. numbered_152 line s g [] i bs)) [
      | true ↦ λ h. absurd (let none : prefix_len (λ c. not (eqb c 10)) (b ∷ bs) ≡ 0 = feeds_first b bs h in omega (arith, none, low))
      | false ↦ λ h. full_step line start got piece inside b bs h (omega (arith, e))
    ] refl
full line start got piece inside (suc n) (b ∷ bs) low e =
    elim (eqb b 10) as (λ (t : Bool). eqb b 10 ≡ t → numbered_152 line start got piece inside (b ∷ bs) ≡
    numbered_piece start got (piece ++ b ∷ take (suc n) bs) false inside line (λ s g i. numbered_152 line s g [] i (drop (suc n) bs))) [
      | true ↦ λ h. absurd (let none : prefix_len (λ c. not (eqb c 10)) (b ∷ bs) ≡ 0 = feeds_first b bs h in omega (arith, none, low))
      | false ↦ λ h.
          let later : prefix_len (λ c. not (eqb c 10)) (b ∷ bs) ≡ 1 + prefix_len (λ c. not (eqb c 10)) bs = feeds_later b bs h in
          let longer : length (piece ++ b ∷ []) ≡ length piece + 1 = pushed_length piece b in
          more_step line start got piece inside b bs h (λ f. absurd (omega (arith, e, f)))
          ∙ full line start got (piece ++ b ∷ []) inside n bs (omega (arith, low, later)) (omega (arith, e, longer))
          ∙ ap (λ (r : List ℕ). numbered_piece start got r false inside line (λ s g i. numbered_152 line s g [] i (drop (suc n) bs)))
          (append_assoc piece (b ∷ []) (take (suc n) bs))
    ] refl

-- the piece ends with a line feed
fed : (line start : ℕ) (got piece : List ℕ) (inside : Bool) (bytes : List ℕ) →
    (length got < 1023 → length got + length piece + prefix_len (λ b. not (eqb b 10)) bytes < 1023) →
    (drop (prefix_len (λ b. not (eqb b 10)) bytes) bytes ≡ [] → ⊥) → numbered_152 line start got piece inside bytes ≡
    numbered_piece start got (piece ++ take (prefix_len (λ b. not (eqb b 10)) bytes) bytes) true inside (line + 1)
    (λ s g i. numbered_152 (line + 1) s g [] i (drop 1 (drop (prefix_len (λ b. not (eqb b 10)) bytes) bytes)))
fed line start got piece inside [] fits some = absurd (some refl)
fed line start got piece inside (b ∷ bs) fits some =
    elim (eqb b 10) as (λ (t : Bool). eqb b 10 ≡ t → numbered_152 line start got piece inside (b ∷ bs) ≡
    numbered_piece start got (piece ++ take (prefix_len (λ c. not (eqb c 10)) (b ∷ bs)) (b ∷ bs)) true inside (line + 1)
    (λ s g i. numbered_152 (line + 1) s g [] i (drop 1 (drop (prefix_len (λ c. not (eqb c 10)) (b ∷ bs)) (b ∷ bs))))) [
      | true ↦ λ h.
          feed_step line start got piece inside b bs h
          ∙ ap (λ (r : List ℕ). numbered_piece start got r true inside (line + 1) (λ s g i. numbered_152 (line + 1) s g [] i bs)) (sym (append-nil piece))
          ∙ ap (λ (k : ℕ). numbered_piece start got (piece ++ take k (b ∷ bs)) true inside (line + 1)
          (λ s g i. numbered_152 (line + 1) s g [] i (drop 1 (drop k (b ∷ bs))))) (sym (feeds_first b bs h))
      | false ↦ λ h.
          let later : prefix_len (λ c. not (eqb c 10)) (b ∷ bs) ≡ suc (prefix_len (λ c. not (eqb c 10)) bs) =
          feeds_later b bs h ∙ one-add (prefix_len (λ c. not (eqb c 10)) bs) in
          let longer : length (piece ++ b ∷ []) ≡ length piece + 1 = pushed_length piece b in
          more_step line start got piece inside b bs h (λ f. absurd (let low : length got < 1023 = omega (arith, f) in omega (arith, f, later, fits low)))
          ∙ fed line start got (piece ++ b ∷ []) inside bs (λ low. omega (arith, longer, later, fits low))
          (λ e. some (ap (λ (k : ℕ). drop k (b ∷ bs)) later ∙ e))
          ∙ ap (λ (r : List ℕ). numbered_piece start got r true inside (line + 1)
          (λ s g i. numbered_152 (line + 1) s g [] i (drop 1 (drop (prefix_len (λ c. not (eqb c 10)) bs) bs))))
          (append_assoc piece (b ∷ []) (take (prefix_len (λ c. not (eqb c 10)) bs) bs))
          ∙ ap (λ (k : ℕ). numbered_piece start got (piece ++ take k (b ∷ bs)) true inside (line + 1)
          (λ s g i. numbered_152 (line + 1) s g [] i (drop 1 (drop k (b ∷ bs))))) (sym later)
    ] refl

last_step : (line start : ℕ) (got : List ℕ) (p : ℕ) (piece : List ℕ) (inside : Bool) → numbered_152 line start got (p ∷ piece) inside [] ≡
    numbered_piece start got ((p ∷ piece) ++ []) false inside (line + 1) (λ s g i. numbered_152 (line + 1) s g [] i [])
unfolding numbered_152
last_step line start got p piece inside = ap (λ (r : List ℕ). numbered_piece start got r false inside (line + 1) (λ s g i. numbered_end i))
    (sym (append-nil (p ∷ piece)))

-- the file ends with the piece
ended : (line start : ℕ) (got : List ℕ) (p : ℕ) (piece : List ℕ) (inside : Bool) (bytes : List ℕ) →
    (length got < 1023 → length got + length (p ∷ piece) + prefix_len (λ b. not (eqb b 10)) bytes < 1023) →
    drop (prefix_len (λ b. not (eqb b 10)) bytes) bytes ≡ [] → numbered_152 line start got (p ∷ piece) inside bytes ≡
    numbered_piece start got ((p ∷ piece) ++ take (prefix_len (λ b. not (eqb b 10)) bytes) bytes) false inside (line + 1)
    (λ s g i. numbered_152 (line + 1) s g [] i [])
ended line start got p piece inside [] fits none = last_step line start got p piece inside
ended line start got p piece inside (b ∷ bs) fits none =
    elim (eqb b 10) as (λ (t : Bool). eqb b 10 ≡ t → numbered_152 line start got (p ∷ piece) inside (b ∷ bs) ≡
    numbered_piece start got ((p ∷ piece) ++ take (prefix_len (λ c. not (eqb c 10)) (b ∷ bs)) (b ∷ bs)) false inside (line + 1)
    (λ s g i. numbered_152 (line + 1) s g [] i [])) [
      | true ↦ λ h. absurd (let left : b ∷ bs ≡ [] = sym (ap (λ (k : ℕ). drop k (b ∷ bs)) (feeds_first b bs h)) ∙ none in cc)
      | false ↦ λ h.
          let later : prefix_len (λ c. not (eqb c 10)) (b ∷ bs) ≡ suc (prefix_len (λ c. not (eqb c 10)) bs) =
          feeds_later b bs h ∙ one-add (prefix_len (λ c. not (eqb c 10)) bs) in
          let longer : length (p ∷ piece ++ b ∷ []) ≡ length (p ∷ piece) + 1 = pushed_length (p ∷ piece) b in
          more_step line start got (p ∷ piece) inside b bs h
          (λ f. absurd (let low : length got < 1023 = omega (arith, f) in omega (arith, f, later, fits low)))
          ∙ ended line start got p (piece ++ b ∷ []) inside bs (λ low. omega (arith, longer, later, fits low))
          (sym (ap (λ (k : ℕ). drop k (b ∷ bs)) later) ∙ none)
          ∙ ap (λ (r : List ℕ). numbered_piece start got r false inside (line + 1) (λ s g i. numbered_152 (line + 1) s g [] i []))
          (append_assoc (p ∷ piece) (b ∷ []) (take (prefix_len (λ c. not (eqb c 10)) bs) bs))
          ∙ ap (λ (k : ℕ). numbered_piece start got ((p ∷ piece) ++ take k (b ∷ bs)) false inside (line + 1)
          (λ s g i. numbered_152 (line + 1) s g [] i [])) (sym later)
    ] refl

-- from the first byte on
first_ended : (line start : ℕ) (got : List ℕ) (inside : Bool) (bytes : List ℕ) → (bytes ≡ [] → ⊥) →
    (length got < 1023 → length got + prefix_len (λ b. not (eqb b 10)) bytes < 1023) →
    drop (prefix_len (λ b. not (eqb b 10)) bytes) bytes ≡ [] → numbered_152 line start got [] inside bytes ≡
    numbered_piece start got (take (prefix_len (λ b. not (eqb b 10)) bytes) bytes) false inside (line + 1) (λ s g i. numbered_152 (line + 1) s g [] i [])
first_ended line start got inside [] some fits none = absurd (some refl)
first_ended line start got inside (b ∷ bs) some fits none =
    elim (eqb b 10) as (λ (t : Bool). eqb b 10 ≡ t → numbered_152 line start got [] inside (b ∷ bs) ≡
    numbered_piece start got (take (prefix_len (λ c. not (eqb c 10)) (b ∷ bs)) (b ∷ bs)) false inside (line + 1)
    (λ s g i. numbered_152 (line + 1) s g [] i [])) [
      | true ↦ λ h. absurd (let left : b ∷ bs ≡ [] = sym (ap (λ (k : ℕ). drop k (b ∷ bs)) (feeds_first b bs h)) ∙ none in cc)
      | false ↦ λ h.
          let later : prefix_len (λ c. not (eqb c 10)) (b ∷ bs) ≡ suc (prefix_len (λ c. not (eqb c 10)) bs) =
          feeds_later b bs h ∙ one-add (prefix_len (λ c. not (eqb c 10)) bs) in
          more_step line start got [] inside b bs h (λ f. absurd (let low : length got < 1023 = omega (arith, f) in omega (arith, f, later, fits low)))
          ∙ ended line start got b [] inside bs (λ low. omega (arith, later, fits low)) (sym (ap (λ (k : ℕ). drop k (b ∷ bs)) later) ∙ none)
          ∙ ap (λ (k : ℕ). numbered_piece start got (take k (b ∷ bs)) false inside (line + 1) (λ s g i. numbered_152 (line + 1) s g [] i [])) (sym later)
    ] refl

-- WHAT `split_piece` GIVES

abbrev pub IsNext : List ℕ → ℕ → Bool → Bool → List ℕ → List ℕ → Type 0
IsNext bytes used fed whole piece after = (line start : ℕ) (got : List ℕ) (inside : Bool) → length got ≡ used →
    numbered_152 line start got [] inside bytes ≡ numbered_piece start got piece fed inside (cond whole (line + 1) line)
    (λ s g i. numbered_152 (cond whole (line + 1) line) s g [] i after)

pub full_piece : (bytes piece after : List ℕ) (used len n : ℕ) → len ≡ prefix_len (λ b. not (eqb b 10)) bytes → n ≤ len → used + n ≡ 1023 → 0 < n →
    piece ≡ take n bytes → after ≡ drop n bytes → IsNext bytes used false false piece after
full_piece bytes piece after used len zero is low e some front back line start got inside same = absurd (omega (arith, some))
full_piece bytes piece after used len (suc n) is low e some front back line start got inside same =
    full line start got [] inside n bytes (omega (arith, is, low)) (omega (arith, same, e))
    ∙ ap (λ (r : List ℕ). numbered_piece start got r false inside line (λ s g i. numbered_152 line s g [] i (drop (suc n) bytes))) (sym front)
    ∙ ap (λ (r : List ℕ). numbered_piece start got piece false inside line (λ s g i. numbered_152 line s g [] i r)) (sym back)

pub fed_piece : (bytes piece rest after : List ℕ) (used len : ℕ) → len ≡ prefix_len (λ b. not (eqb b 10)) bytes → (used < 1023 → used + len < 1023) →
    piece ≡ take len bytes → rest ≡ drop len bytes → (rest ≡ [] → ⊥) → after ≡ drop 1 rest → IsNext bytes used true true piece after
fed_piece bytes piece rest after used len is fits front back some later line start got inside same =
    fed line start got [] inside bytes (λ low. let own : used < 1023 = omega (arith, same, low) in omega (arith, same, is, fits own))
    (λ e. some (back ∙ ap (λ (k : ℕ). drop k bytes) is ∙ e))
    ∙ ap (λ (k : ℕ). numbered_piece start got (take k bytes) true inside (line + 1)
    (λ s g i. numbered_152 (line + 1) s g [] i (drop 1 (drop k bytes)))) (sym is)
    ∙ ap (λ (r : List ℕ). numbered_piece start got r true inside (line + 1) (λ s g i. numbered_152 (line + 1) s g [] i (drop 1 (drop len bytes)))) (sym front)
    ∙ ap (λ (r : List ℕ). numbered_piece start got piece true inside (line + 1) (λ s g i. numbered_152 (line + 1) s g [] i (drop 1 r))) (sym back)
    ∙ ap (λ (r : List ℕ). numbered_piece start got piece true inside (line + 1) (λ s g i. numbered_152 (line + 1) s g [] i r)) (sym later)

pub last_piece : (bytes piece after : List ℕ) (used len : ℕ) → len ≡ prefix_len (λ b. not (eqb b 10)) bytes → (used < 1023 → used + len < 1023) →
    (bytes ≡ [] → ⊥) → piece ≡ take len bytes → after ≡ drop len bytes → after ≡ [] → IsNext bytes used false true piece after
last_piece bytes piece after used len is fits some front back none line start got inside same =
    first_ended line start got inside bytes some (λ low. let own : used < 1023 = omega (arith, same, low) in omega (arith, same, is, fits own))
    (sym (back ∙ ap (λ (k : ℕ). drop k bytes) is) ∙ none)
    ∙ ap (λ (k : ℕ). numbered_piece start got (take k bytes) false inside (line + 1) (λ s g i. numbered_152 (line + 1) s g [] i [])) (sym is)
    ∙ ap (λ (r : List ℕ). numbered_piece start got r false inside (line + 1) (λ s g i. numbered_152 (line + 1) s g [] i [])) (sym front)
    ∙ ap (λ (r : List ℕ). numbered_piece start got piece false inside (line + 1) (λ s g i. numbered_152 (line + 1) s g [] i r)) (sym none)

pub is_nothing : (bs : List ℕ) → eqb (length bs) 0 ≡ true → bs ≡ []
is_nothing [] h = refl
is_nothing (b ∷ bs) h = absurd (let none : length (b ∷ bs) ≡ 0 = eqb-true (length (b ∷ bs)) 0 h in omega (arith, none))

pub is_something : (bs : List ℕ) → eqb (length bs) 0 ≡ false → bs ≡ [] → ⊥
is_something bs h none = absurd (true≢false (sym (ap (λ (r : List ℕ). eqb (length r) 0) none) ∙ h))

pub no_length : (bs : List ℕ) → length bs ≡ 0 → bs ≡ []
no_length [] h = refl
no_length (b ∷ bs) h = absurd (omega (arith, h))
