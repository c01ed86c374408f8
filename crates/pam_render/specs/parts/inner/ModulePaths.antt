-- For private contracts and proofs alone: the paths of modules.
use Rattle.std.specs.Prelude.{ℕ, List, [], ◌∷◌, ◌++◌}
use Rattle.pam_conf.specs.Stack.{Items, End, ThenModule, ThenSub}

-- the paths of all modules, from the left
abbrev pub paths_of : Items → List (List ℕ)
paths_of End = []
paths_of (ThenModule m rest) = m.path ∷ paths_of rest
paths_of (ThenSub s inner rest) = paths_of inner ++ paths_of rest
