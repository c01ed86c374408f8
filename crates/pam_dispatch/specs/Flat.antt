-- The flat list of a stack's items, each with its level, in the order of pam.conf(5), DESCRIPTION.
use Rattle.std.specs.Prelude.{◌≡◌, ℕ, ◌+◌, ◌-◌, ◌==◌, nat_lt, ◌&&◌, if◌then◌else◌}
use Rattle.std.specs.Prelude.{List, [], ◌∷◌, ◌++◌, length, take, drop, slice_index_or, Option, Some, None}
use Rattle.pam_codes.specs.declared.action.Action.{Action}
use Rattle.pam_dispatch.specs.declared.state.State.{State}
use Rattle.pam_dispatch.specs.declared.flat_item.FlatItem.{FlatItem}
use Rattle.pam_dispatch.specs.declared.flat_item.FlatItem.TheVariants.{Module, Substack}
use Rattle.pam_dispatch.specs.declared.place.Place.{Place}
use Rattle.pam_dispatch.specs.State.{start_state}
use Rattle.pam_dispatch.specs.Runs.{Runs, ends, asks}

-- the number of substacks around an item
abbrev pub level_of : FlatItem → ℕ
level_of (Module level number control after) = level
level_of (Substack level) = level

-- the controls of the modules, from the left
unfoldable pub controls_in : List FlatItem → List (List Action)
controls_in [] = []
controls_in (Module level number control after ∷ rest) = control ∷ controls_in rest
controls_in (Substack level ∷ rest) = controls_in rest

-- the number of modules
abbrev pub modules_of : List FlatItem → ℕ
modules_of program = length (controls_in program)

-- the control of the module with this number, from 1
abbrev pub control_at : List FlatItem → ℕ → List Action
control_at program number = slice_index_or (controls_in program) (number - 1) []

-- the open run of a flat list: skips the items deeper than `level` and `skip` items of that level; `entered` has
-- the entry states of the open lists, outermost first, and `s` is the state
unfoldable pub resume : List FlatItem → ℕ → ℕ → List State → State → Runs
resume [] level skip entered s = ends s
resume (Module here number control after ∷ rest) level skip entered s =
    if nat_lt level here then resume rest level skip entered s
    else if here == level && nat_lt 0 skip then resume rest level (skip - 1) entered s
    else asks
    (record { module_number = number; control = control; state = s; entry = slice_index_or entered here start_state; after = after })
    (λ o. resume rest here (after - o.left) (take (here + 1) entered) o.state)
resume (Substack here ∷ rest) level skip entered s =
    if nat_lt level here then resume rest level skip entered s
    else if here == level && nat_lt 0 skip then resume rest level (skip - 1) entered s
    else resume rest (here + 1) 0 (take (here + 1) entered ++ s ∷ []) s

-- THE OPEN RUN of a program
unfoldable pub runs_of : List FlatItem → Runs
runs_of program = resume program 0 0 (start_state ∷ []) start_state

-- the rest of the open run from a place on
unfoldable pub rest_of : List FlatItem → Place → Runs
rest_of program place =
    resume (drop place.position program) place.depth 0 (take place.depth place.entered.states) place.state

-- a place is at a module, with an entry state for each open list, or at the end
abbrev pub IsAt : List FlatItem → ℕ → Option ℕ → Type 0
IsAt [] depth here = here ≡ None
IsAt (Module level number control after ∷ rest) depth here = (depth ≡ level + 1) × (here ≡ Some number)
IsAt (Substack level ∷ rest) depth here = ⊥

-- a place is one of the program
unfoldable pub IsPlaceOf : List FlatItem → Place → Type 0
IsPlaceOf program place = IsAt (drop place.position program) place.depth place.module_number
