-- The first line of a text, the lines after it, and their numbers.
use Rattle.std.proofs.Common.{◌≡◌, ◌+◌, ◌&&◌, ◌⊎◌, inl, inr, ⊎_elim, ℕ, Bool, true, false, List, [], ◌∷◌, map, cond, eqb, ap, sym, ◌∙◌, refl}
use Rattle.std.specs.List.{onto_first}
use Rattle.std.proofs.lemmas.Bool.{eqb-true}
use Rattle.pam_text.specs.Text.{FileByte, file_bytes, uncommented, joined, text_of, lines_of, first_line, after_line, text_lines, onto_line}
use Rattle.pam_text.specs.inner.Text.{first_bytes}

-- the first byte, if there is one, is of this line
unfoldable pub HeadIs : ℕ → List FileByte → Type 0
HeadIs l [] = Unit {0}
HeadIs l (m ∷ ms) = m.0 ≡ l

head_in_comment : (l : ℕ) (bs : List ℕ) → HeadIs l (uncommented true (file_bytes l bs))
unfolding HeadIs file_bytes uncommented
head_in_comment l [] = tt
head_in_comment l (b ∷ bs) =
    elim (eqb b 10) as (λ (t : Bool).
    HeadIs l (cond t ((l, b) ∷ uncommented false (file_bytes (cond t (l + 1) l) bs)) (uncommented true (file_bytes (cond t (l + 1) l) bs)))) [
      | true ↦ refl
      | false ↦ head_in_comment l bs
    ]

head_of_rest : (l : ℕ) (bs : List ℕ) → HeadIs l (uncommented false (file_bytes l bs))
unfolding HeadIs file_bytes uncommented
head_of_rest l [] = tt
head_of_rest l (b ∷ bs) =
    elim (eqb b 35) as (λ (t : Bool).
    eqb b 35 ≡ t
    → HeadIs l (cond t (uncommented true (file_bytes (cond (eqb b 10) (l + 1) l) bs))
    ((l, b) ∷ uncommented false (file_bytes (cond (eqb b 10) (l + 1) l) bs)))) [
      | true ↦ λ e. let is : b ≡ 35 = eqb-true b 35 e in rw is (head_in_comment l bs)
      | false ↦ λ e. refl
    ] refl

head_joined : (l : ℕ) (ms : List FileByte) → HeadIs l ms → HeadIs l (joined ms)
unfolding HeadIs joined
head_joined l [] h = tt
head_joined l (m ∷ []) h = h
head_joined l (m ∷ n ∷ ms) h =
    elim (eqb m.1 92 && eqb n.1 10) as (λ (t : Bool). HeadIs l (cond t ((m.0, 32) ∷ joined ms) (m ∷ joined (n ∷ ms)))) [ true ↦ h | false ↦ h ]

pub head_is : (l : ℕ) (bs : List ℕ) → HeadIs l (text_of l bs)
head_is l bs = head_joined l _ (head_of_rest l bs)

pub bytes_of_first : (ms : List FileByte) → map (λ m. m.1) (first_bytes ms) ≡ first_line ms
bytes_of_first [] = refl
bytes_of_first (m ∷ ms) =
    elim (eqb m.1 10) as (λ (t : Bool). map (λ m. m.1) (cond t [] (m ∷ first_bytes ms)) ≡ cond t [] (m.1 ∷ first_line ms)) [
      | true ↦ refl
      | false ↦ ap (λ bs. m.1 ∷ bs) (bytes_of_first ms)
    ]

-- the lines of a text are its first, and those after it, if a line feed ends it
pub split_first : (ms : List FileByte) → (lines_of ms ≡ first_bytes ms ∷ lines_of (after_line ms))
    ⊎ ((lines_of ms ≡ first_bytes ms ∷ []) × (after_line ms ≡ []))
split_first [] = inr (refl, refl)
split_first (m ∷ ms) =
    elim (eqb m.1 10) as (λ (t : Bool).
    (cond t ([] ∷ lines_of ms) (onto_first m (lines_of ms)) ≡ cond t [] (m ∷ first_bytes ms) ∷ lines_of (cond t ms (after_line ms))) ⊎
    ((cond t ([] ∷ lines_of ms) (onto_first m (lines_of ms)) ≡ cond t [] (m ∷ first_bytes ms) ∷ []) × (cond t ms (after_line ms) ≡ []))) [
      | true ↦ inl refl
      | false ↦ ⊎_elim (λ e. inl (ap (onto_first m) e)) (λ p. inr (ap (onto_first m) p.0, p.1)) (split_first ms)
    ]

pub first_of : (m : FileByte) (ms : List FileByte) → text_lines (m ∷ ms) ≡ (m.0, first_line (m ∷ ms)) ∷ text_lines (after_line (m ∷ ms))
unfolding text_lines
first_of m [] =
    elim (eqb m.1 10) as (λ (t : Bool). cond t ((m.0, []) ∷ []) (onto_line m []) ≡ (m.0, cond t [] (m.1 ∷ [])) ∷ text_lines (cond t [] [])) [
      | true ↦ refl
      | false ↦ refl
    ]
first_of m (k ∷ ms) =
    elim (eqb m.1 10) as (λ (t : Bool).
    cond t ((m.0, []) ∷ text_lines (k ∷ ms)) (onto_line m (text_lines (k ∷ ms)))
    ≡ (m.0, cond t [] (m.1 ∷ first_line (k ∷ ms))) ∷ text_lines (cond t (k ∷ ms) (after_line (k ∷ ms)))) [
      | true ↦ refl
      | false ↦ ap (onto_line m) (first_of k ms)
    ]

-- the lines of a text that is not empty are its first, and those after it
pub lines_step : (l : ℕ) (ms : List FileByte) → HeadIs l ms → (ms ≡ [] → ⊥) → text_lines ms ≡ (l, first_line ms) ∷ text_lines (after_line ms)
unfolding HeadIs
lines_step l [] h n = absurd (n refl)
lines_step l (m ∷ ms) h n = first_of m ms ∙ ap (λ (k : ℕ). (k, first_line (m ∷ ms)) ∷ text_lines (after_line (m ∷ ms))) h

pub given_line : (l : ℕ) (ms : List FileByte) (bytes : List ℕ) (rest : List FileByte) → HeadIs l ms → (ms ≡ [] → ⊥) → bytes ≡ first_line ms
    → rest ≡ after_line ms → text_lines ms ≡ (l, bytes) ∷ text_lines rest
given_line l ms bytes rest h n e f =
    lines_step l ms h n
    ∙ ap (λ (bs : List ℕ). (l, bs) ∷ text_lines (after_line ms)) (sym e)
    ∙ ap (λ (r : List FileByte). (l, bytes) ∷ text_lines r) (sym f)

pub no_lines : (ms : List FileByte) → ms ≡ [] → text_lines ms ≡ []
unfolding text_lines
no_lines ms e = ap text_lines e
