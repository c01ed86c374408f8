-- The values of the pairs of a control (pam.conf(5), the values between brackets).
use Rattle.std.specs.Prelude.{ℕ, List, codes, position, if◌then◌else◌, Result, Ok, Err}
use Rattle.std.specs.Option.{option_map_or}
use Rattle.pam_codes.specs.declared.subject.Subject.{Subject}
use Rattle.pam_codes.specs.declared.subject.Subject.TheVariants.{Named, Incomplete, Default}
use Rattle.pam_codes.specs.declared.error.ControlError.{ControlError}
use Rattle.pam_codes.specs.declared.error.ControlError.TheVariants.{BadValue}
use Rattle.pam_codes.specs.Code.{code_names, same_name}

-- the value of a word that is not the name of a code
abbrev pub other_subject : List ℕ → Result Subject ControlError
other_subject word =
    if same_name (codes "incomplete") word then Ok Incomplete
    else if same_name (codes "default") word then Ok Default
    else Err BadValue

-- the value of a word, or its fault
unfoldable pub subject_of : List ℕ → Result Subject ControlError
subject_of word = option_map_or (λ n. Ok (Named n)) (position (λ n. same_name n word) code_names) (other_subject word)
