-- Texts in one piece of memory, cut by their lengths.
use Rattle.std.proofs.Common.{◌≡◌, ◌+◌, ◌≤◌, ◌++◌, ◌∙◌, ◌∷◌, [], ℕ, List, ap, refl, arith, drop, length, sym, take}
use Rattle.std.proofs.lemmas.List.{drop-append-le, length-drop, take_all, take-append-le}
use Rattle.std.proofs.lemmas.List.Sums.{sum_by-cons}
use Rattle.std.specs.List.{sum}
use Rattle.pam_text.specs.Texts.{cut_lengths}

-- one more text
push_text : (lens bytes text : List ℕ) → sum lens ≡ length bytes
    → cut_lengths (lens ++ length text ∷ []) (bytes ++ text) ≡ cut_lengths lens bytes ++ text ∷ []
push_text [] [] text h =
    let all : length text ≤ length text = omega arith in
    ap (λ (t : List ℕ). t ∷ []) (take_all (length text) text all)
push_text [] (b ∷ bytes) text h = absurd (omega (arith, h))
push_text (len ∷ lens) bytes text h =
    let both : len + sum lens ≡ length bytes = sym (sum_by-cons (λ x. x) len lens) ∙ h in
    let within : len ≤ length bytes = omega (arith, both) in
    let left : sum lens ≡ length (drop len bytes) = omega (arith, both, length-drop len bytes) in
    rw (take-append-le len bytes text within, drop-append-le len bytes text within)
    (ap (λ (ts : List (List ℕ)). take len bytes ∷ ts) (push_text lens (drop len bytes) text left))

pub pushed_text : (lens bytes text : List ℕ) (n : ℕ) (new_lens new_bytes : List ℕ) (seen : List (List ℕ)) → sum lens ≡ length bytes
    → cut_lengths lens bytes ≡ seen → n ≡ length text → new_lens ≡ lens ++ n ∷ [] → new_bytes ≡ bytes ++ text
    → cut_lengths new_lens new_bytes ≡ seen ++ text ∷ []
pushed_text lens bytes text n new_lens new_bytes seen h v e f g =
    rw (f, g, e) (push_text lens bytes text h) ∙ ap (λ (ts : List (List ℕ)). ts ++ text ∷ []) v

-- the number of texts
pub count_texts : (lens bytes : List ℕ) → length (cut_lengths lens bytes) ≡ length lens
count_texts [] bytes = refl
count_texts (len ∷ lens) bytes = omega (arith, count_texts lens (drop len bytes))
