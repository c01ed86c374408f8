-- Stacks that are closed on purpose: pam_deny(8).
use Rattle.std.specs.Prelude.{ℕ, ◌&&◌, Bool, true, false, List, codes}
use Rattle.std.specs.Option.{option_map_or}
use Rattle.std.specs.Str.{bytes_eq}
use Rattle.pam_codes.specs.Code.{auth_err}
use Rattle.pam_codes.specs.declared.action.Action.{Action}
use Rattle.pam_codes.specs.declared.action.Action.TheVariants.{Bad, Die}
use Rattle.pam_conf.specs.Stack.{Items, ModuleText, ThenModule}
use Rattle.pam_conf.specs.declared.rule.Kind.{Kind}
use Rattle.pam_conf.specs.declared.rule.Kind.TheVariants.{Password, Session}
use Rattle.pam_dispatch.specs.State.{action_of}
use Rattle.pam_facts.specs.Paths.{module_name}

abbrev pub session_err : ℕ
session_err = 14

abbrev pub authtok_err : ℕ
authtok_err = 20

-- what pam_deny(8) answers in a kind
abbrev pub denial_in : Kind → ℕ
denial_in Password = authtok_err
denial_in Session = session_err
denial_in kind = auth_err

-- a code with this action fails the list, and may end it
abbrev pub is_failure : Action → Bool
is_failure Bad = true
is_failure Die = true
is_failure action = false

abbrev pub is_denial : ModuleText → Bool
is_denial m = option_map_or (λ name. bytes_eq name (codes "pam_deny")) (module_name m.path) false

-- THE FIRST ITEM OF A STACK of a kind is a denial that fails it, whatever comes after: whoever writes this means it
abbrev pub begins_closed : Kind → Items → Bool
begins_closed kind (ThenModule m rest) = is_denial m && is_failure (action_of m.control (denial_in kind))
begins_closed kind items = false
