-- The fewest of some things that are enough together, and groups of them.
use Rattle.std.specs.Prelude.{◌≡◌, ◌⊎◌, ◌++◌, List, [], ◌∷◌}

-- THE FEWEST of some things that are enough (`Enough`) beside those before them: what stays, and what is left out. The last that can be
-- left out is left out first: one is left out if those before it and what stays of those after it are enough
unfoldable pub AreFewest : {X : Type 0} → (List X → Type 0) → List X → List X → List X → List X → Type 0
AreFewest Enough before [] kept left = (kept ≡ []) × (left ≡ [])
AreFewest {X} Enough before (x ∷ after) kept left =
    ((fewer : List X) × (left ≡ x ∷ fewer) × Enough (before ++ kept) × AreFewest Enough (before ++ x ∷ []) after kept fewer)
    ⊎ ((fewer : List X) × (kept ≡ x ∷ fewer) × (Enough (before ++ fewer) → ⊥) × AreFewest Enough (before ++ x ∷ []) after fewer left)

-- GROUPS of some things: the fewest that are enough, then the same again of what is left, while all that is left is enough
unfoldable pub AreGroups : {X : Type 0} → (List X → Type 0) → List X → List (List X) → Type 0
AreGroups Enough rest [] = Enough rest → ⊥
AreGroups {X} Enough rest (group ∷ groups) =
    Enough rest × ((left : List X) × AreFewest Enough [] rest group left × AreGroups Enough left groups)

-- THE THINGS THAT ARE FOUND for some, in their order: for each the one that goes with it (`Goes`), if one does
unfoldable pub AreFound : {X Y : Type 0} → (X → Y → Type 0) → List X → List Y → Type 0
AreFound Goes [] found = found ≡ []
AreFound {X} {Y} Goes (x ∷ xs) found =
    ((y : Y) × (rest : List Y) × (found ≡ y ∷ rest) × Goes x y × AreFound Goes xs rest)
    ⊎ (((y : Y) → Goes x y → ⊥) × AreFound Goes xs found)

-- those of some things of which something holds
abbrev pub AreThose : {X : Type 0} → (X → Type 0) → List X → List X → Type 0
AreThose Such xs found = AreFound (λ x y. (x ≡ y) × Such x) xs found
