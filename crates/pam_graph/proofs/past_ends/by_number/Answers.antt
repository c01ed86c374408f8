use Rattle.std.proofs.Common.{◌≡◌, ◌<◌, ◌∙◌, List, ℕ, [], ap, arith, get_or, inl, inr, length, replicate, slice_set, suc, sym, zero, refl}
use Rattle.std.proofs.lemmas.Bool.{cases_lt}
use Rattle.std.proofs.lemmas.List.{get_or-set_other, get_or-set_same, get_or_default, get_or_past, length-set}
use Rattle.pam_graph.proofs.past_ends.by_number.Goals as goal

abbrev sets : ℕ → List (List ℕ)
sets k = replicate k []

none : (n k : ℕ) → get_or (sets k) n [] ≡ []
none n zero = refl
none zero (suc k) = refl
none (suc n) (suc k) = none n k

pub loop-index-init : goal.loop-index-init
loop-index-init c =
    let is : _ ≡ sets 256 = ap (λ (x : List ℕ). replicate 256 x) c.empty-codes.ensures in
    record {
      before = λ n k. absurd (omega (arith, k));
      after = λ n k. ap (λ (l : List (List ℕ)). get_or l n []) is ∙ none n 256;
      long = ap (λ (l : List (List ℕ)). length l) is;
    }

pub loop-index-preserved : goal.loop-index-preserved
loop-index-preserved c =
    let i = c.loop-index.index in
    let inv = c.loop-index.invariant in
    let found = c.args.found.now in
    let l : i < length found = c.loop-index-test.true in
    let low : i < length c.loop-index.codes = omega (arith, l, c.requires, inv.long) in
    let x = c.index-found-index.result in
    record {
      before = λ n k. elim (cases_lt n i) [
        | inl m ↦ get_or-set_other c.loop-index.codes i n x [] (λ e. omega (arith, m, e)) ∙ inv.before n m
        | inr m ↦
            let same : n ≡ i = omega (arith, k, m) in
            ap (λ (j : ℕ). get_or (slice_set c.loop-index.codes i x) j []) same
            ∙ get_or-set_same c.loop-index.codes i x [] low
            ∙ (c.index-found-index.is ∙ get_or_default found i x [] l)
            ∙ ap (λ (j : ℕ). get_or found j []) (sym same)
      ];
      after = λ n k. get_or-set_other c.loop-index.codes i n x [] (λ e. omega (arith, k, e)) ∙ inv.after n (omega (arith, k));
      long = length-set c.loop-index.codes i x ∙ inv.long;
    }

pub returns : goal.returns
returns c n =
    elim (cases_lt n (length c.args.found.now)) [
      | inl k ↦ c.loop-index.invariant.before n (omega (arith, k, c.loop-index-test.false))
      | inr k ↦ c.loop-index.invariant.after n (omega (arith, k, c.loop-index.auto.index-end)) ∙ sym (get_or_past c.args.found.now n [] k)
    ]
