-- For private contracts and proofs alone: the flat list of a stack's items.
use Rattle.std.specs.Prelude.{◌≡◌, ℕ, ◌+◌, ◌<◌, ◌≤◌, List, [], ◌∷◌, ◌++◌}
use Rattle.pam_conf.specs.Stack.{Items, End, ThenModule, ThenSub}
use Rattle.pam_conf.specs.declared.stack.TheConstants.{MAX_MODULES}
use Rattle.pam_dispatch.specs.declared.flat_item.FlatItem.{FlatItem}
use Rattle.pam_dispatch.specs.declared.flat_item.FlatItem.TheVariants.{Module, Substack}
use Rattle.pam_dispatch.specs.declared.entered.TheConstants.{LISTS}
use Rattle.pam_dispatch.specs.Tree.{count}

-- each item with its level, a substack before its items
unfoldable pub flat_list : ℕ → Items → List FlatItem
flat_list level End = []
flat_list level (ThenModule m rest) = Module level m.number m.control (count rest) ∷ flat_list level rest
flat_list level (ThenSub sub inner rest) = Substack level ∷ (flat_list (level + 1) inner ++ flat_list level rest)

-- the positions of the modules, from the left, if `before` items come before the list
unfoldable pub positions_from : ℕ → List FlatItem → List ℕ
positions_from before [] = []
positions_from before (Module level number control after ∷ rest) = before ∷ positions_from (before + 1) rest
positions_from before (Substack level ∷ rest) = positions_from (before + 1) rest

-- the modules are numbered from the left, if `before` modules come before the list
unfoldable pub IsNumbered : ℕ → List FlatItem → Type 0
IsNumbered before [] = Unit {0}
IsNumbered before (Module level number control after ∷ rest) = (number ≡ before + 1) × IsNumbered (before + 1) rest
IsNumbered before (Substack level ∷ rest) = IsNumbered before rest

-- at most 16 lists are open at a module, or in a substack, and a module's number is at most that of modules in a stack
abbrev pub IsBounded : FlatItem → Type 0
IsBounded (Module level number control after) = (level < LISTS) × (number ≤ MAX_MODULES)
IsBounded (Substack level) = level + 1 < LISTS
