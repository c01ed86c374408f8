-- From the open run of a stack to its tree.
use Rattle.std.proofs.Common.{◌≡◌, ℕ, List, ◌∷◌, ◌++◌, map, sym, ◌∙◌, ap, Result, Ok, Err}
use Rattle.std.specs.Prelude.{MatchResult}
use Rattle.pam_conf.specs.Stack.{Items}
use Rattle.pam_dispatch.specs.Decision.{decision_of}
use Rattle.pam_dispatch.specs.Runs.{Ask, Assignment, Runs, final_state}
use Rattle.pam_dispatch.specs.State.{start_state}
use Rattle.pam_dispatch.specs.Tree.{asked, runs_of_stack}
use Rattle.pam_dispatch.proofs.OpenRuns.{asked_by-runs_of_stack, decision_of-runs_of_stack}
use Rattle.pam_paths.specs.Cursor.{IsAccepted, IsNotLeast, IsRefusal, IsTooLong, IsTooShort}
use Rattle.pam_paths.specs.declared.cursor.CursorError.{CursorError}
use Rattle.pam_paths.specs.declared.cursor.CursorError.TheVariants.{Syntax, NotLeast, TooShort, TooLong}
use Rattle.pam_paths.specs.Laws.{PathOfStack}
use Rattle.pam_paths.specs.declared.direction.Direction.{Direction}
use Rattle.pam_paths.specs.declared.direction.Direction.TheVariants.{Forward, Backward}
use Rattle.pam_paths.specs.inner.Directions.{IsListingFrom}
use Rattle.pam_paths.specs.Listing.{Allowance, IsAllowedPath, IsListing}
use Rattle.pam_paths.specs.Paths.{PathValue, StepValue, key, path_of, path_through, step_by}

value : List StepValue → ℕ → PathValue
value s d = record { steps = s; decision = d }

pub path_of-stack : PathOfStack
unfolding path_of path_through value
path_of-stack items answers =
    ap (λ (x : List Ask). value (map (step_by answers) x) (decision_of (final_state (runs_of_stack items) answers))) (asked_by-runs_of_stack items answers)
    ∙ ap (value (map (step_by answers) (asked items start_state start_state answers))) (decision_of-runs_of_stack items answers)

path_of-tree : (runs : Runs) (items : Items) → runs ≡ runs_of_stack items → (answers : Assignment) → path_of runs answers ≡ path_through items answers
path_of-tree runs items is answers = ap (λ (r : Runs). path_of r answers) is ∙ path_of-stack items answers

module _ (allows : Allowance) (n : ℕ) (runs : Runs) (items : Items) (is : runs ≡ runs_of_stack items) where
  on_tree : (p : PathValue) → IsAllowedPath allows n (path_of runs) p → IsAllowedPath allows n (path_through items) p
  on_tree p w = (w.0, w.1, w.2 ∙ path_of-tree runs items is w.0)

  on_run : (p : PathValue) → IsAllowedPath allows n (path_through items) p → IsAllowedPath allows n (path_of runs) p
  on_run p w = (w.0, w.1, w.2 ∙ sym (path_of-tree runs items is w.0))

  pub listing-tree : (paths : List PathValue) → IsListing allows n (path_of runs) paths → IsListing allows n (path_through items) paths
  listing-tree paths h = record {
    rising = h.rising;
    members = λ p. (λ m. on_tree p ((h.members p).0 m), λ w. (h.members p).1 (on_run p w));
  }

  pub from-tree : (d : Direction) (k : List ℕ) (paths : List PathValue) →
      IsListingFrom d allows n (path_of runs) k paths → IsListingFrom d allows n (path_through items) k paths
  from-tree Forward k paths h = record {
    rising = h.rising;
    members = λ p. (λ m. let w = (h.members p).0 m in (on_tree p w.0, w.1), λ w. (h.members p).1 (on_run p w.0, w.1));
  }
  from-tree Backward k paths h = record {
    falling = h.falling;
    members = λ p. (λ m. let w = (h.members p).0 m in (on_tree p w.0, w.1), λ w. (h.members p).1 (on_run p w.0, w.1));
  }

-- codes have the same verdict among the paths through an open run and through its tree
module _ (n : ℕ) (runs : Runs) (items : Items) (is : runs ≡ runs_of_stack items) where
  key-tree : (answers : Assignment) → key (path_of runs answers) ≡ key (path_through items answers)
  key-tree answers = ap (λ (p : PathValue). key p) (path_of-tree runs items is answers)

  steps-tree : (answers : Assignment) → (path_of runs answers).steps ≡ (path_through items answers).steps
  steps-tree answers = ap (λ (p : PathValue). p.steps) (path_of-tree runs items is answers)

  accepted-tree : (codes : List ℕ) → IsAccepted n (path_of runs) codes → IsAccepted n (path_through items) codes
  accepted-tree codes h = (h.0, h.1, h.2 ∙ key-tree h.0)

  not_least-tree : (codes : List ℕ) (place : ℕ) → IsNotLeast n (path_of runs) codes place → IsNotLeast n (path_through items) codes place
  not_least-tree codes place h = record {
    answers = h.answers;
    are_codes = h.are_codes;
    earlier = h.earlier;
    step = h.step;
    later = h.later;
    steps = sym (steps-tree h.answers) ∙ h.steps;
    code = h.code;
    rest = h.rest;
    parts = h.parts;
    at = h.at;
    inside = h.inside;
    other = h.other;
  }

  too_short-tree : (codes : List ℕ) → IsTooShort n (path_of runs) codes → IsTooShort n (path_through items) codes
  too_short-tree codes h = (h.0, h.1, h.2, h.3, sym (key-tree h.0) ∙ h.4)

  too_long-tree : (codes : List ℕ) → IsTooLong n (path_of runs) codes → IsTooLong n (path_through items) codes
  too_long-tree codes h = (h.0, h.1, h.2, h.3, h.4 ∙ ap (λ (k : List ℕ). k ++ h.2 ∷ h.3) (key-tree h.0))

  refusal-tree : (codes : List ℕ) (error : CursorError) → IsRefusal n (path_of runs) codes error → IsRefusal n (path_through items) codes error
  refusal-tree codes Syntax h = h
  refusal-tree codes (NotLeast place) h = (not_least-tree codes place h.0, h.1)
  refusal-tree codes TooShort h = (too_short-tree codes h.0, h.1)
  refusal-tree codes TooLong h = (too_long-tree codes h.0, h.1)

  pub verdict-tree : (codes : List ℕ) (r : Result (Unit {0}) CursorError)
      → MatchResult r (λ _. IsAccepted n (path_of runs) codes) (IsRefusal n (path_of runs) codes)
      → MatchResult r (λ _. IsAccepted n (path_through items) codes) (IsRefusal n (path_through items) codes)
  verdict-tree codes (Ok x) h = accepted-tree codes h
  verdict-tree codes (Err e) h = refusal-tree codes e h
