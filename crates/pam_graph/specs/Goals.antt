-- What is wanted of a run, and how many walks have it: pam.conf(5), DESCRIPTION.
use Rattle.std.specs.Prelude.{ℕ, ◌-◌, ◌^◌, ◌==◌, nat_lt, Bool, true, if◌then◌else◌, List, [], ◌∷◌, Option, None, Some, filter, slice_index_or}
use Rattle.std.specs.List.{list_any}
use Rattle.pam_codes.specs.Set.{codes_where, is_in}
use Rattle.pam_graph.specs.declared.goal.Goal.{Goal}
use Rattle.pam_graph.specs.declared.goal.Goal.TheVariants.{Any, Decides, Asks, PastEnd}
use Rattle.pam_paths.specs.Paths.{PathValue, StepValue}

-- a step asks the module with this number
abbrev pub asks_module : ℕ → StepValue → Bool
asks_module number step = step.module_number == number

-- an answer of a step can be one of these codes of its module; the first codes are those of module 1
abbrev pub gives_one : List (List ℕ) → StepValue → Bool
gives_one codes step = list_any (λ code. is_in code (slice_index_or codes (step.module_number - 1) [])) step.class

-- a path meets a goal
abbrev pub meets : Goal → PathValue → Bool
meets Any path = true
meets (Decides codes) path = is_in path.decision codes
meets (Asks number) path = list_any (asks_module number) path.steps
meets (PastEnd codes) path = list_any (gives_one codes) path.steps

-- THE PATHS THAT MEET A GOAL, in their order
abbrev pub meeting : Goal → List PathValue → List PathValue
meeting goal paths = filter (meets goal) paths

-- some path decides a code
abbrev pub is_decided : List PathValue → ℕ → Bool
is_decided paths code = list_any (meets (Decides (code ∷ []))) paths

-- THE CODES THAT ARE DECIDED by some path
unfoldable pub decided : List PathValue → List ℕ
decided paths = codes_where (is_decided paths)

-- a number, if it is below 2^128
unfoldable pub fit : ℕ → Option ℕ
fit n = if nat_lt n (2 ^ 128) then Some n else None
