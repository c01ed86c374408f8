-- For private contracts and proofs alone: the run of a stack, over its tree of items.
use Rattle.std.specs.Prelude.{List, [], ◌∷◌, ◌++◌}
use Rattle.pam_codes.specs.declared.action.Action.{Action}
use Rattle.pam_conf.specs.Stack.{Items, End, ThenModule, ThenSub}

-- the controls of all modules, from the left
unfoldable pub controls_of : Items → List (List Action)
controls_of End = []
controls_of (ThenModule m rest) = m.control ∷ controls_of rest
controls_of (ThenSub sub inner rest) = controls_of inner ++ controls_of rest
