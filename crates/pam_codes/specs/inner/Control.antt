-- For private contracts and proofs alone: the control of a rule.
use Rattle.std.specs.Prelude.{ℕ, ◌-◌, ◌==◌, ◌&&◌, nat_lt, Bool, List, [], ◌∷◌, slice_index}
use Rattle.pam_codes.specs.declared.action.Action.{Action}
use Rattle.pam_codes.specs.declared.action.Action.TheVariants.{Ignore}
use Rattle.pam_codes.specs.declared.subject.Subject.TheVariants.{Named, Default}
use Rattle.pam_codes.specs.Code.{ignored, new_authtok_reqd, success}
use Rattle.pam_codes.specs.Control.{Pairs}

-- `granted` for success and new_authtok_reqd, ignore for ignore, and `other` for the other codes
abbrev pub granting_pairs : Action → Action → Pairs
granting_pairs granted other = (Named success, granted) ∷ (Named new_authtok_reqd, granted) ∷ (Named ignored, Ignore) ∷ (Default, other) ∷ []

-- whether a backslash is directly before an index
abbrev pub escaped_at : List ℕ → ℕ → Bool
escaped_at bytes i = nat_lt 0 i && slice_index bytes (i - 1) == 92
