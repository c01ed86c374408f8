-- The events of the modules of a stack, one module after another.
use Rattle.std.proofs.Common.{◌≡◌, ◌∙◌, ℕ, ◌+◌, zero, suc, List, [], ◌∷◌, ◌++◌, ap, add-one, arith, sym}
use Rattle.std.proofs.lemmas.List.{flat_map_more}
use Rattle.std.specs.List.{flat_map, range_with_len}

-- one number more
range-suc : (a n : ℕ) → range_with_len a (suc n) ≡ range_with_len a n ++ (a + n) ∷ []
range-suc a zero = ap (λ (m : ℕ). m ∷ []) (omega arith)
range-suc a (suc n) =
    ap (λ (ms : List ℕ). a ∷ ms) (range-suc (a + 1) n)
    ∙ ap (λ (m : ℕ). a ∷ (range_with_len (a + 1) n ++ m ∷ [])) (omega arith)

pub range-more : (a n m : ℕ) → a + n ≡ m → range_with_len a (n + 1) ≡ range_with_len a n ++ m ∷ []
range-more a n m is =
    ap (range_with_len a) (add-one n) ∙ range-suc a n ∙ ap (λ (k : ℕ). range_with_len a n ++ k ∷ []) is

pub events-next : {X : Type 0} (of : ℕ → List X) (index : ℕ) (old new : List X) → old ≡ flat_map of (range_with_len 1 index) → new ≡ old ++ of (index + 1) →
    new ≡ flat_map of (range_with_len 1 (index + 1))
events-next of index old new is adds =
    adds ∙ ap (λ events. events ++ of (index + 1)) is ∙ flat_map_more of [] (range_with_len 1 index) (index + 1)
    ∙ ap (flat_map of) (sym (range-more 1 index (index + 1) (omega arith)))
