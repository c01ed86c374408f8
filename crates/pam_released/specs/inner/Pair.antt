-- For private contracts and proofs alone: the first pair of the inside of a control.
use Rattle.std.specs.Prelude.{ℕ, List, drop, length, if◌then◌else◌, Option, Some, None}
use Rattle.pam_codes.specs.declared.action.Action.{Action}
use Rattle.pam_codes.specs.declared.subject.Subject.{Subject}
use Rattle.pam_released.specs.declared.release.Release.{Release}
use Rattle.pam_released.specs.Control.{action_at, after_spaces, begins, equals_at, name_of, subject_at, then_some}

-- a code and the text after its name, if a text begins with it
abbrev pub code_after : List ℕ → ℕ → Option (ℕ × List ℕ)
code_after text code = if begins (name_of code) text then Some (code, drop (length (name_of code)) text) else None

-- the pair at the start of a text, and the text after it
abbrev pub pair_at : Release → List ℕ → Option ((Subject × Action) × List ℕ)
pair_at release text =
    then_some (subject_at text) (λ s. then_some (equals_at (after_spaces s.1)) (λ r. then_some (action_at release (after_spaces r))
    (λ a. Some ((s.0, a.0), a.1))))
