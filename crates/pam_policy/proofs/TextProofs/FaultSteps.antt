-- The fault of a part is that of the whole.
use Rattle.std.proofs.Common.{◌≡◌, ◌∙◌, ℕ, List, [], Result, Err, ap, sym}
use Rattle.pam_policy.specs.declared.text.error.PolicyFault.{PolicyFault}
use Rattle.pam_policy.specs.declared.text.error.PolicyFault.TheVariants as faults
use Rattle.pam_policy.specs.text.Error.{◌>>=◌}
use Rattle.pam_policy.specs.text.inner.Error.{FailsIn}

pub fails_as : {X Y : Type 0} (fault : PolicyFault) (part : Result X PolicyFault) (whole : Result Y PolicyFault) → FailsIn fault part
    → (part ≡ Err fault → whole ≡ Err fault) → FailsIn fault whole
fails_as faults.MissingField part whole h is = is h
fails_as faults.NulByte part whole h is = is h
fails_as faults.TableTooLong part whole h is = is h
fails_as faults.BadCode part whole h is = is h
fails_as faults.BadServices part whole h is = is h
fails_as faults.BadKinds part whole h is = is h
fails_as faults.BadVerb part whole h is = is h
fails_as faults.BadEvent part whole h is = is h
fails_as faults.BadList part whole h is = is h
fails_as faults.NoAnswers part whole h is = is h
fails_as faults.ExtraWord part whole h is = is h
fails_as faults.TooManyRules part whole h is = is h
fails_as faults.Memory part whole h is = tt

then_too : {X Y : Type 0} (fault : PolicyFault) (part : Result X PolicyFault) (f : X → Result Y PolicyFault) → part ≡ Err fault → (part >>= f) ≡ Err fault
then_too fault part f e = ap (λ r. r >>= f) e

pub fails_first : {X Y : Type 0} (fault : PolicyFault) (part : Result X PolicyFault) (f : X → Result Y PolicyFault) → FailsIn fault part
    → FailsIn fault (part >>= f)
fails_first fault part f h = fails_as fault part (part >>= f) h (then_too fault part f)

-- no word is left where one is needed
pub next_fails : {Y : Type 0} (f : List (List ℕ) → Result Y PolicyFault) (old : List (List ℕ)) (fault : PolicyFault) → f [] ≡ Err faults.MissingField
    → (fault ≡ faults.MissingField) × (old ≡ []) → f old ≡ Err fault
next_fails f old fault e h = ap f h.1 ∙ e ∙ ap Err (sym h.0)

-- a fault that is known
pub told : {Y : Type 0} (fault : PolicyFault) (meant : Result Y PolicyFault) → meant ≡ Err fault → FailsIn fault meant
told faults.MissingField meant e = e
told faults.NulByte meant e = e
told faults.TableTooLong meant e = e
told faults.BadCode meant e = e
told faults.BadServices meant e = e
told faults.BadKinds meant e = e
told faults.BadVerb meant e = e
told faults.BadEvent meant e = e
told faults.BadList meant e = e
told faults.NoAnswers meant e = e
told faults.ExtraWord meant e = e
told faults.TooManyRules meant e = e
told faults.Memory meant e = tt
