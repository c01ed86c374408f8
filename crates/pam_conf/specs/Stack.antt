-- The stack of a service, as a tree: pam.conf(5).
use Rattle.std.specs.Prelude.{◌≡◌, ℕ, ◌+◌, ◌==◌, max, Bool, List, [], ◌∷◌, ◌++◌, Option, Some, None, if◌then◌else◌}
use Rattle.std.specs.List.{range_with_len}
use Rattle.pam_codes.specs.declared.action.Action.{Action}

-- a module: its number from the left, its rule, and the rule's file and line
pub record ModuleText : Type 0 where
  pub number : ℕ
  pub dashed : Bool
  pub control : List Action
  pub path : List ℕ
  pub arguments : List (List ℕ)
  pub file : ℕ
  pub line : ℕ

-- the file and line of a substack's rule, and the file that it names
pub record SubText : Type 0 where
  pub file : ℕ
  pub line : ℕ
  pub target : ℕ

-- a list of items: each item, then the rest of the list
pub data Items : Type 0 where
  End : Items
  ThenModule : ModuleText → Items → Items
  ThenSub : SubText → Items → Items → Items

-- a substack: its rule and its items
pub record SubList : Type 0 where
  pub text : SubText
  pub inner : Items

-- one list followed by another
abbrev pub joined : Items → Items → Items
joined End after = after
joined (ThenModule m rest) after = ThenModule m (joined rest after)
joined (ThenSub s inner rest) after = ThenSub s inner (joined rest after)

-- the number of modules, those of substacks included
abbrev pub module_count : Items → ℕ
module_count End = 0
module_count (ThenModule m rest) = module_count rest + 1
module_count (ThenSub s inner rest) = module_count inner + module_count rest

-- the greatest number of lists that are open at once, this one included
abbrev pub depth : Items → ℕ
depth End = 1
depth (ThenModule m rest) = depth rest
depth (ThenSub s inner rest) = max (depth inner + 1) (depth rest)

-- the numbers of the modules, from the left
abbrev pub numbers_of : Items → List ℕ
numbers_of End = []
numbers_of (ThenModule m rest) = m.number ∷ numbers_of rest
numbers_of (ThenSub s inner rest) = numbers_of inner ++ numbers_of rest

-- the modules are numbered from `first` on, from the left
unfoldable pub IsNumberedFrom : ℕ → Items → Type 0
IsNumberedFrom first items = numbers_of items ≡ range_with_len first (module_count items)

abbrev pub IsNumbered : Items → Type 0
IsNumbered = IsNumberedFrom 1

-- the first of two modules, or the second if the first is absent
abbrev pub first_there : Option ModuleText → Option ModuleText → Option ModuleText
first_there None other = other
first_there (Some m) other = Some m

-- the first module with this number, from the left
abbrev pub module_at : ℕ → Items → Option ModuleText
module_at number End = None
module_at number (ThenModule m rest) = if m.number == number then Some m else module_at number rest
module_at number (ThenSub s inner rest) = first_there (module_at number inner) (module_at number rest)
