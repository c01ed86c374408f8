-- For private contracts and proofs alone: what a search says.
use Rattle.std.specs.Prelude.{ℕ, List}
use Rattle.pam_graph.specs.declared.node.Edge.{Edge}
use Rattle.pam_paths.specs.Known.{may_answer}
use Rattle.pam_paths.specs.Paths.{PathValue}
use Rattle.pam_policy.specs.declared.search.distances.Search.{Search}
use Rattle.pam_policy.specs.search.inner.Distances.{AreDistances, GoodAfter, GoodAlong, GoodBy, IsFirst, IsLeast}
use Rattle.pam_policy.specs.search.Runs.{RunValue}

-- a search has the distances of nodes from each of which on these are the walks
abbrev pub Knows : Search → List (List PathValue) → Type 0
Knows search known = AreDistances (may_answer search.known.now) search.query.now known search.far.now

-- the first run from a state on along some walks
abbrev pub IsFirstFrom : Search → List PathValue → ℕ → RunValue → Type 0
IsFirstFrom search walks state run = IsFirst (GoodAlong (may_answer search.known.now) search.query.now walks state) run

-- the distance of a state along some walks; after an answer; and after an answer of the class of an edge
abbrev pub IsLeastFrom : Search → List PathValue → ℕ → ℕ → Type 0
IsLeastFrom search walks state distance = IsLeast (GoodAlong (may_answer search.known.now) search.query.now walks state) distance

abbrev pub IsLeastAfter : Search → List PathValue → ℕ → ℕ → ℕ → ℕ → Type 0
IsLeastAfter search walks number code state distance =
    IsLeast (GoodAfter (may_answer search.known.now) search.query.now walks number code state) distance

abbrev pub IsLeastBy : Search → List (List PathValue) → ℕ → ℕ → Edge → ℕ → Type 0
IsLeastBy search known number state edge distance =
    IsLeast (GoodBy (may_answer search.known.now) search.query.now known number state edge) distance
