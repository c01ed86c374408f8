-- What is held: the answers of modules that one stack has asked and the other has yet to ask.
use Rattle.std.specs.Prelude.{List, [], ◌∷◌, IsTrue}
use Rattle.pam_codes.specs.Set.{is_in}
use Rattle.pam_dispatch.specs.Runs.{Assignment}
use Rattle.pam_compare.specs.declared.held.HeldAnswer.{HeldAnswer}

-- the assignment agrees with what is held: each held name answers one of the codes that are held for it
unfoldable pub Holds : Assignment → List HeldAnswer → Type 0
Holds a [] = Unit {0}
Holds a (answer ∷ rest) = IsTrue (is_in (a answer.name) answer.codes) × Holds a rest
