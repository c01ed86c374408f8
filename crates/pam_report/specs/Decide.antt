-- The modules that a run of a stack asks, as in pam.conf(5).
use Rattle.std.specs.Prelude.{ℕ, List, [], map}
use Rattle.std.specs.Option.{option_map_or}
use Rattle.pam_codes.specs.declared.action.Action.{Action}
use Rattle.pam_conf.specs.Stack.{Items, module_at}
use Rattle.pam_dispatch.specs.Runs.{Ask, Assignment, outcome_of}
use Rattle.pam_dispatch.specs.State.{action_of}
use Rattle.pam_dispatch.specs.declared.state.State.{State}

-- the path of a module, by number
unfoldable pub path_at : ℕ → Items → List ℕ
path_at number items = option_map_or (λ m. m.path) (module_at number items) []

-- a module that is asked: its number and path, the code that it returns, the action for the code, and the state after it
pub record AskedModule : Type 0 where
  pub number : ℕ
  pub path : List ℕ
  pub code : ℕ
  pub action : Action
  pub state : State

unfoldable pub asked_module : Items → Assignment → Ask → AskedModule
asked_module items answers ask =
    let code = answers ask.module_number in
    record {
      number = ask.module_number;
      path = path_at ask.module_number items;
      code = code;
      action = action_of ask.control code;
      state = (outcome_of ask code).state;
    }

-- the modules of a run, in order
abbrev pub asked_modules : Items → Assignment → List Ask → List AskedModule
asked_modules items answers asks = map (asked_module items answers) asks
