-- The parts of a control (pam.conf(5), "[value1=action1 value2=action2 ...]"): the codes, grouped by action.
use Rattle.std.specs.Prelude.{◌≡◌, ◌≢◌, ◌<◌, ℕ, List, length, slice_get, slice_index, Some, IsTrue, All}
use Rattle.std.specs.List.{AllPairs, Any}
use Rattle.pam_codes.specs.declared.action.Action.{Action}
use Rattle.pam_codes.specs.declared.parts.Part.{Part}
use Rattle.pam_codes.specs.declared.code.TheConstants.{CODES}
use Rattle.pam_codes.specs.Set.{is_in, IsCodeSet}

-- the least code of a part
abbrev pub least_of : Part → ℕ
least_of part = slice_index part.codes 0

-- one or more codes, all with the action of the part
pub record IsPart (control : List Action) (part : Part) : Type 0 where
  pub set : IsCodeSet part.codes
  pub filled : 0 < length part.codes
  pub acts : (code : ℕ) → IsTrue (is_in code part.codes) → slice_get control code ≡ Some part.action

-- THE PARTS of a control: each code is in exactly one of them, no two have the same action, and they are in the order
-- of their least codes
pub record IsParts (control : List Action) (parts : List Part) : Type 0 where
  pub each_part : All (IsPart control) parts
  pub each_code : (code : ℕ) → code < CODES → Any (λ part. IsTrue (is_in code part.codes)) parts
  pub apart : (code : ℕ) → AllPairs (λ p q. IsTrue (is_in code p.codes) → IsTrue (is_in code q.codes) → ⊥) parts
  pub one_each : AllPairs (λ p q. p.action ≢ q.action) parts
  pub in_order : AllPairs (λ p q. least_of p < least_of q) parts
