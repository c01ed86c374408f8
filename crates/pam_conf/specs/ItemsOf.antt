-- A list of items as a tree: pam.conf(5).
use Rattle.std.specs.Prelude.{List, [], ◌∷◌}
use Rattle.pam_conf.specs.declared.stack.Module.{Module}
use Rattle.pam_conf.specs.declared.stack.Item.{Item}
use Rattle.pam_conf.specs.declared.stack.Item.TheVariants.{Module as ModuleItem, Sub as SubItem}
use Rattle.pam_conf.specs.declared.stack.Sub.TheInside.{Inside}
use Rattle.pam_conf.specs.Stack.{ModuleText, Items, End, ThenModule, ThenSub, SubList}

-- a module without its layout in memory
abbrev pub module_text : Module → ModuleText
module_text m =
    record {
      number = m.number;
      dashed = m.dashed;
      control = m.control;
      path = m.path.items;
      arguments = m.arguments;
      file = m.file;
      line = m.line;
    }

-- the tree of a list of items
abbrev pub items_of : List Item → Items
items_of [] = End
items_of (ModuleItem m ∷ rest) = ThenModule (module_text m) (items_of rest)
items_of (SubItem s ∷ rest) = ThenSub s.text s.inner (items_of rest)

-- a substack: its rule, and the tree of its items
abbrev pub sub_list : Inside → SubList
sub_list s = record { text = record { file = s.file; line = s.line; target = s.target }; inner = items_of s.items.items }
