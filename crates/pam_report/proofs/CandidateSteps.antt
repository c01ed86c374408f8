-- Candidates that services read, or that none reads: what is answered.
use Rattle.std.proofs.Common.{◌≡◌, ℕ, true, List, Option, None, Some, Result, refl, subst, sym}
use Rattle.pam_report.specs.Candidates.{IfUsed}
use Rattle.pam_report.specs.Finds.{Finds, Refuses}
use Rattle.pam_report.specs.Memory.{IsWanting, Wants}
use Rattle.pam_report.specs.Reply.{Answer}
use Rattle.pam_report.specs.declared.fault.Fault.{Fault}
use Rattle.pam_report.specs.declared.fault.Fault.TheVariants as faults
use Rattle.pam_report.specs.declared.report.replies.Reply.{Reply}
use Rattle.pam_report.specs.inner.Candidates.{IsUnused}

module _ (IsAnswer : Answer → Type 0) (unused : Option (List ℕ)) where
  -- each is read
  pub answered : (result : Result Reply Fault) → unused ≡ None → Finds result IsAnswer → Finds result (IfUsed unused IsAnswer)
  answered result none h = subst (λ (o : Option (List ℕ)). Finds result (IfUsed o IsAnswer)) (sym none) h

-- one is not read
pub refused : (IsAnswer : Answer → Type 0) (unused : Option (List ℕ)) (fault : Fault) → IsUnused unused fault → Refuses (IfUsed unused IsAnswer) fault
refused IsAnswer (Some name) faults.UnusedCandidate some = refl
refused IsAnswer None faults.UnusedCandidate some = cc
refused IsAnswer unused faults.Memory some = tt
refused IsAnswer unused _ some = absurd some

-- memory may run out where the files are looked at
pub wanting : (wants : Wants) (unused : Option (List ℕ)) (fault : Fault) → wants.work ≡ true → IsUnused unused fault → IsWanting wants fault
wanting wants unused faults.UnusedCandidate works some = tt
wanting wants unused faults.Memory works some = works
wanting wants unused _ works some = absurd some
