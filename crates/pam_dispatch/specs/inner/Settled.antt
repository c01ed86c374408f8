-- For private contracts and proofs alone: the end of a run that no answer changes.
use Rattle.std.specs.Prelude.{◌≡◌, ℕ, ◌<◌, IsTrue, List, [], ◌∷◌}
use Rattle.pam_codes.specs.declared.action.Action.{Action}
use Rattle.pam_codes.specs.declared.code.TheConstants.{CODES}
use Rattle.pam_dispatch.specs.declared.flat_item.FlatItem.{FlatItem}
use Rattle.pam_dispatch.specs.declared.flat_item.FlatItem.TheVariants.{Module, Substack}
use Rattle.pam_dispatch.specs.State.{action_of}
use Rattle.pam_dispatch.specs.Settled.{keeps_failure}

-- the actions of all codes do
abbrev pub AllKeepFailure : List Action → Type 0
AllKeepFailure control = (code : ℕ) → code < CODES → IsTrue (keeps_failure (action_of control code))

-- modules of the outermost list, none of which changes a failed stack
unfoldable pub KeepFailure : List FlatItem → Type 0
KeepFailure [] = Unit {0}
KeepFailure (Module level number control after ∷ rest) = (level ≡ 0) × AllKeepFailure control × KeepFailure rest
KeepFailure (Substack level ∷ rest) = ⊥
