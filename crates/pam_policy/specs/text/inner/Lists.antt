-- For private contracts and proofs alone: the events of a list, one after another.
use Rattle.std.specs.Prelude.{ℕ, Bool, true, false, List, [], ◌∷◌, ◌++◌, length, Option, None, Result, Ok, Err, if◌then◌else◌}
use Rattle.pam_policy.specs.declared.text.error.PolicyFault.{PolicyFault}
use Rattle.pam_policy.specs.declared.text.error.PolicyFault.TheVariants.{MissingField}
use Rattle.pam_policy.specs.declared.text.place.Joint.{Joint}
use Rattle.pam_policy.specs.declared.text.place.Place.{Place}
use Rattle.pam_policy.specs.text.Error.{◌>>=◌}
use Rattle.pam_policy.specs.text.Events.{EventText, event_of}
use Rattle.pam_policy.specs.text.Lists.{Read, bare_codes, goes_on, joint_of, roomy}

-- the joint that comes next, if one does
abbrev pub next_joint : List (List ℕ) → Option Joint
next_joint [] = None
next_joint (word ∷ words) = joint_of word

-- events, and those that are read after them
abbrev pub after_events : List EventText → Result Read PolicyFault → Result Read PolicyFault
after_events events (Ok others) = Ok (events ++ others.0, others.1)
after_events events (Err fault) = Err fault

-- a joint and one more event
abbrev pub one_more : Place → Joint → List EventText → List (List ℕ) → Result (Bool × Read) PolicyFault
one_more place joint events [] = Err MissingField
one_more place joint events (word ∷ []) = Err MissingField
one_more place joint events (word ∷ next ∷ words) = do
  event ← event_of (bare_codes place) next
  room ← roomy place joint (length events)
  Ok (true, (events ++ event ∷ [], words))

-- the same, if a joint comes next. The first part says whether one does
unfoldable pub next_event : Place → Joint → List EventText → List (List ℕ) → Result (Bool × Read) PolicyFault
next_event place joint events words = do
  more ← goes_on place joint (next_joint words)
  if more then one_more place joint events words else Ok (false, (events, words))
