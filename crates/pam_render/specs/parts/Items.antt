-- The lines of stacks in the order of pam.conf(5), in a form of answers.
use Rattle.std.specs.Prelude.{ℕ, ◌+◌, List, [], ◌++◌}
use Rattle.std.specs.List.{flat_map}
use Rattle.pam_conf.specs.Files.{Folder}
use Rattle.pam_conf.specs.Stack.{Items, End, ThenModule, ThenSub, ModuleText, SubText, module_count}
use Rattle.pam_conf.specs.declared.rule.Kind.{Kind}
use Rattle.pam_report.specs.Reply.{StackValue}

-- a line of a stack, whose rules are in files
pub data Line : Type 0 where
  -- the service, the kind and the number of modules
  Head : List ℕ → Kind → ℕ → Line
  -- a module, nested in this number of substacks
  Module : Folder → ℕ → ModuleText → Line
  -- the rule of a substack, nested in this number of others
  Sub : Folder → ℕ → SubText → Line

-- if this is the text of a line
module _ (line : Line → List ℕ) where
  -- the lines of a list at a level. The items of a substack are one level deeper
  unfoldable pub items_lines : Folder → ℕ → Items → List ℕ
  items_lines files level End = []
  items_lines files level (ThenModule m rest) = line (Module files level m) ++ items_lines files level rest
  items_lines files level (ThenSub s inner rest) =
      line (Sub files level s) ++ items_lines files (level + 1) inner ++ items_lines files level rest

  -- the lines of a stack
  abbrev pub stack_lines : StackValue → List ℕ
  stack_lines stack = line (Head stack.service stack.kind (module_count stack.items)) ++ items_lines stack.files 0 stack.items

  -- THE LINES of stacks, one stack after another
  abbrev pub stacks_lines : List StackValue → List ℕ
  stacks_lines stacks = flat_map stack_lines stacks
