-- The answers of a trail, name by name.
use Rattle.std.proofs.Common.{◌≡◌, ◌≢◌, ◌<◌, ◌≤◌, ◌∙◌, ◌+◌, ℕ, zero, suc, List, [], ◌∷◌, get_or, length, drop, ap, arith, refl, sym}
use Rattle.std.proofs.Math.Seq.{drop-cons}
use Rattle.pam_dispatch.specs.Runs.{Assignment}
use Rattle.pam_compare.specs.declared.nodes.Way.{Way}
use Rattle.pam_compare.specs.inner.Trails.{answers_on, with_answer}
use Rattle.pam_compare.proofs.Trails.{with-other, with-same}

-- the answers of the last steps of a trail, and of one more
drop-step : (base : Assignment) (trail : List Way) (i : ℕ) (w : Way) → i < length trail → w ≡ get_or trail i w →
    answers_on base (drop i trail) ≡ with_answer (answers_on base (drop (i + 1) trail)) w.name w.code
unfolding answers_on
drop-step base trail i w within is =
    let e : drop i trail ≡ w ∷ drop (suc i) trail = drop-cons trail i w within ∙ ap (λ (x : Way). x ∷ drop (suc i) trail) (sym is) in
    let f : suc i ≡ i + 1 = omega arith in
    ap (answers_on base) e ∙ ap (λ (m : ℕ). with_answer (answers_on base (drop m trail)) w.name w.code) f

pub answer-here : (base : Assignment) (trail : List Way) (i : ℕ) (w : Way) (name : ℕ) → i < length trail → w ≡ get_or trail i w → w.name ≡ name →
    answers_on base (drop i trail) name ≡ w.code
answer-here base trail i w name within is same =
    ap (λ (a : Assignment). a name) (drop-step base trail i w within is)
    ∙ with-same (answers_on base (drop (i + 1) trail)) w.name w.code name (sym same)

pub answer-later : (base : Assignment) (trail : List Way) (i : ℕ) (w : Way) (name : ℕ) → i < length trail → w ≡ get_or trail i w → w.name ≢ name →
    answers_on base (drop i trail) name ≡ answers_on base (drop (i + 1) trail) name
answer-later base trail i w name within is other =
    ap (λ (a : Assignment). a name) (drop-step base trail i w within is)
    ∙ with-other (answers_on base (drop (i + 1) trail)) w.name w.code name (λ e. other (sym e))

pub answer-end : (base : Assignment) (trail : List Way) (i name : ℕ) → drop i trail ≡ [] → answers_on base (drop i trail) name ≡ base name
unfolding answers_on
answer-end base trail i name e = ap (λ (l : List Way). answers_on base l name) e

pub drop-past : {X : Type 0} (xs : List X) (i : ℕ) → length xs ≤ i → drop i xs ≡ []
drop-past [] zero h = refl
drop-past [] (suc i) h = refl
drop-past (x ∷ xs) zero h = absurd (omega (arith, h))
drop-past (x ∷ xs) (suc i) h = drop-past xs i (omega (arith, h))
