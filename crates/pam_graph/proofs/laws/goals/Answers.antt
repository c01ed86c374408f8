use Rattle.std.proofs.Common.{◌≡◌, ◌∷◌, ◌||◌, [], Bool, List, ap, cond, false, filter, refl, sym, true}
use Rattle.std.proofs.lemmas.Bool.{false≢true}
use Rattle.std.specs.List.{list_any}
use Rattle.pam_graph.specs.declared.goal.Goal.TheVariants.{Any}
use Rattle.pam_graph.specs.Goals.{meeting}
use Rattle.pam_graph.proofs.laws.goals.Goals as goal
use Rattle.pam_paths.specs.Paths.{PathValue}

all : (paths : List PathValue) → meeting Any paths ≡ paths
all [] = refl
all (path ∷ paths) = ap (λ (x : List PathValue). path ∷ x) (all paths)

none : (test : PathValue → Bool) (paths : List PathValue) → list_any test paths ≡ false → filter test paths ≡ []
none test [] h = refl
none test (path ∷ paths) h =
    elim (test path) as (λ (t : Bool). (t || list_any test paths) ≡ false → cond t (path ∷ filter test paths) (filter test paths) ≡ []) [
      | true ↦ λ e. absurd (false≢true (sym e))
      | false ↦ λ e. none test paths e
    ] h

pub returns-clause-any : goal.returns-clause-any
returns-clause-any c paths = all paths

pub returns-clause-none : goal.returns-clause-none
returns-clause-none c wanted paths h = none _ paths h
