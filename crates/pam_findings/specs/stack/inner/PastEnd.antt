-- For private contracts and proofs alone: the modules that can jump past the end of their lists, from the left.
use Rattle.std.specs.Prelude.{◌≡◌, ◌⊎◌, ℕ, Bool, ◌&&◌, if◌then◌else◌, List, [], ◌∷◌, ◌++◌}
use Rattle.std.specs.List.{list_any}
use Rattle.pam_codes.specs.Code.{all_codes}
use Rattle.pam_codes.specs.declared.action.Action.{Action}
use Rattle.pam_codes.specs.Set.{codes_where, is_in}
use Rattle.pam_conf.specs.Stack.{Items, End, ThenModule, ThenSub, ModuleText}
use Rattle.pam_dispatch.specs.State.{action_of}
use Rattle.pam_dispatch.specs.Tree.{count}
use Rattle.pam_paths.specs.Listing.{Allowance}
use Rattle.pam_graph.specs.PastEnds.{is_past_end}
use Rattle.pam_findings.specs.stack.inner.Marks.{mark_of}

-- one of these codes jumps past the end of a list
abbrev pub can_pass : List Action → List ℕ → ℕ → Bool
can_pass control codes after = list_any (λ code. is_in code codes && is_past_end after (action_of control code)) all_codes

-- a module that is asked may answer such a code
abbrev pub passes : Allowance → List Bool → ModuleText → ℕ → Bool
passes allows marks m after = mark_of marks m.number && can_pass m.control (codes_where (allows m.number)) after

-- the numbers of the modules that pass a test of the module and of the number of items after it in its list
unfoldable pub numbers_where : (ModuleText → ℕ → Bool) → Items → List ℕ
numbers_where test End = []
numbers_where test (ThenModule m rest) = (if test m (count rest) then m.number ∷ [] else []) ++ numbers_where test rest
numbers_where test (ThenSub sub inner rest) = numbers_where test inner ++ numbers_where test rest

-- a module is in a list or its substacks, and this number of items comes after it in its own list
unfoldable pub IsPlaced : ModuleText → ℕ → Items → Type 0
IsPlaced m after End = ⊥
IsPlaced m after (ThenModule other rest) = ((m ≡ other) × (after ≡ count rest)) ⊎ IsPlaced m after rest
IsPlaced m after (ThenSub sub inner rest) = IsPlaced m after inner ⊎ IsPlaced m after rest
