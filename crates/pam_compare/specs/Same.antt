-- Two stacks with the same items: pam.conf(5).
use Rattle.std.specs.Prelude.{◌==◌, ◌&&◌, Bool, true, false, IsTrue}
use Rattle.std.specs.Str.{bytes_eq}
use Rattle.pam_codes.specs.ControlText.{same_actions}
use Rattle.pam_compare.specs.Matching.{same_texts}
use Rattle.pam_conf.specs.Stack.{End, Items, ModuleText, ThenModule, ThenSub}

-- two modules are the same, wherever their rules are: they have one number, control and path, and the same arguments
abbrev pub same_module : ModuleText → ModuleText → Bool
same_module one other =
    (one.number == other.number)
    && (same_actions one.control other.control && (bytes_eq one.path other.path && same_texts one.arguments other.arguments))

-- THE SAME ITEMS: the same modules, in the same substacks
unfoldable pub same_items : Items → Items → Bool
same_items End End = true
same_items (ThenModule m rest) (ThenModule n more) = same_module m n && same_items rest more
same_items (ThenSub s inner rest) (ThenSub t others more) = same_items inner others && same_items rest more
same_items one other = false

abbrev pub AreSame : Items → Items → Type 0
AreSame one other = IsTrue (same_items one other)
