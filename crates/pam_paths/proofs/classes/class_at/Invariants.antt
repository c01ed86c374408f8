use Rattle.std.proofs.Common.{◌≡◌, ◌<◌, ◌&&◌, ℕ, false, take}
use Rattle.std.specs.Prelude.{IsTrue}
use Rattle.std.specs.List.{list_any}
use Rattle.pam_codes.specs.declared.code.TheConstants.{CODES}
use Rattle.pam_codes.specs.Set.{codes_where, is_in}
use Rattle.pam_dispatch.specs.Runs.{outcome_of}
use Rattle.pam_paths.specs.Classes.{same_outcome}
use Rattle.pam_paths.proofs.classes.class_at.Given as goal

abbrev pub invariant-loop-part : goal.invariant-loop-part
invariant-loop-part l =
    ((d : ℕ) → d < CODES → IsTrue (is_in d l.seen) → same_outcome l.outcome (outcome_of l.asked d) ≡ false)
    → l.class ≡ codes_where (λ d. list_any (λ p. is_in d p.codes) (take l.part-index l.parts) && same_outcome l.outcome
    (outcome_of l.asked d))
