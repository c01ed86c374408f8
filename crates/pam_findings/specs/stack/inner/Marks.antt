-- For private contracts and proofs alone: which modules are asked, as marks by their numbers.
use Rattle.std.specs.Prelude.{◌≡◌, ℕ, ◌-◌, ◌<◌, ◌≤◌, ◌==◌, Bool, true, false, List, slice_index_or}
use Rattle.std.specs.List.{list_any}
use Rattle.pam_conf.specs.Stack.{Items, module_count}
use Rattle.pam_dispatch.specs.declared.flat_item.FlatItem.{FlatItem}
use Rattle.pam_dispatch.specs.Flat.{modules_of, runs_of}
use Rattle.pam_dispatch.specs.Tree.{runs_of_stack}
use Rattle.pam_graph.specs.declared.node.Node.{Node}
use Rattle.pam_paths.specs.Listing.{Allowance}
use Rattle.pam_findings.specs.stack.Asked.{Asks, AsksWith}

-- the mark of the module with this number
abbrev pub mark_of : List Bool → ℕ → Bool
mark_of marks number = slice_index_or marks (number - 1) false

-- a node asks the module with this number
abbrev pub asks_number : ℕ → Node → Bool
asks_number number node = number == node.module_number

abbrev pub has_number : ℕ → List Node → Bool
has_number number nodes = list_any (asks_number number) nodes

-- a program is that of a stack
pub record IsProgramOf (program : List FlatItem) (items : Items) : Type 0 where
  pub runs : runs_of program ≡ runs_of_stack items
  pub modules : modules_of program ≡ module_count items

-- what the mark of a module says; if it is set, then for each answer that the module may give, a run asks it and gets this answer
abbrev pub SaysAsked : Allowance → Items → ℕ → Bool → Type 0
SaysAsked allows items number true = (code : ℕ) → code < 31 → allows number code ≡ true → AsksWith allows items number code
SaysAsked allows items number false = Asks allows items number → ⊥

-- the marks of the modules of a stack
abbrev pub AreMarks : Allowance → Items → List Bool → Type 0
AreMarks allows items marks = (number : ℕ) → 1 ≤ number → SaysAsked allows items number (mark_of marks number)
