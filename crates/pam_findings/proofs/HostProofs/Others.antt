-- S10 and S12 of a stack, and the faults of the walk of `other` beside it.
use Rattle.std.proofs.Common.{◌≡◌, ◌⊎◌, ◌↔◌, ◌∙◌, ℕ, Bool, List, [], Option, None, Some, sym, ap, inl, inr, slice_get}
use Rattle.pam_conf.specs.Files.{Folder}
use Rattle.pam_conf.specs.Survey.{surveyed}
use Rattle.pam_conf.specs.declared.conf_error.ConfError.{ConfError}
use Rattle.pam_conf.specs.declared.rule.Kind.{Kind}
use Rattle.pam_findings.specs.host.Inside.{HasJumpInside}
use Rattle.pam_findings.specs.host.OtherAnswers.{HasOtherAnswer, has_no_rule}
use Rattle.pam_findings.specs.host.StackProblems.{InWalk}
use Rattle.pam_findings.specs.host.Verdicts.{Verdict, refuses_all}
use Rattle.pam_findings.specs.host.inner.Lefts.{IsLeft, SaysLeft}
use Rattle.pam_findings.specs.host.inner.Table.{Adds, Puts, Table, with_stack}
use Rattle.pam_findings.specs.declared.host.judging.Stacked.{Stacked}
use Rattle.pam_findings.specs.declared.host.problem.Problem.TheVariants as problems
use Rattle.pam_findings.specs.declared.host.problem.Spot.{Spot}
use Rattle.pam_text.specs.Members.{Member}
use Rattle.pam_findings.proofs.HostProofs.Adding.{adds-iff}
use Rattle.pam_findings.proofs.HostProofs.Passes.{puts-iff}
use Rattle.pam_findings.proofs.HostProofs.Verdicted.{same-spot, spot_of}

module _ (folder : Folder) (name : List ℕ) (at : Stacked) (nobody : Bool) (verdict : Verdict)
    (is_home : at.home ≡ slice_get (surveyed folder name at.kind).reached 0) (tells : nobody ≡ refuses_all verdict) where
  Has : Spot → Type 0
  Has spot = HasOtherAnswer folder at.service name at.kind verdict spot

  left-iff : (left : Option Bool) → SaysLeft folder name at.kind left → (spot : Spot) → IsLeft at left nobody spot ↔ Has spot
  unfolding Has
  left-iff None says spot = (λ h. absurd h, λ a. absurd (says a.answers))
  left-iff (Some none) says spot = (
    λ h. record {
      problem = ap (λ (s : Spot). s.problem) h ∙ ap (λ b. problems.OtherAnswers at.service at.kind b nobody) says.1
          ∙ ap (λ b. problems.OtherAnswers at.service at.kind (has_no_rule folder name) b) tells;
      file = ap (λ (s : Spot). s.file) h ∙ is_home;
      line = ap (λ (s : Spot). s.line) h;
      answers = says.0;
    },
    λ a. same-spot spot (spot_of at (problems.OtherAnswers at.service at.kind none nobody)) (a.file ∙ sym is_home) a.line
        (a.problem ∙ sym (ap (λ b. problems.OtherAnswers at.service at.kind b nobody) says.1
        ∙ ap (λ b. problems.OtherAnswers at.service at.kind (has_no_rule folder name) b) tells)),
  )

  pub adds-answer : (left : Option Bool) → SaysLeft folder name at.kind left → (old new : List Spot) → Adds (IsLeft at left nobody) old new →
      Adds (HasOtherAnswer folder at.service name at.kind verdict) old new
  unfolding Has
  adds-answer left says old new =
      adds-iff (IsLeft at left nobody) (HasOtherAnswer folder at.service name at.kind verdict) old new (left-iff left says)

-- S12 and the faults are put
pub puts-beside : (folder : Folder) (faults : List ConfError) (service : ℕ) (name : List ℕ) (kind : Kind) (jumps all : List Spot) (old new : Table) →
    Adds (HasJumpInside folder name kind) [] jumps →
    Adds (λ spot. InWalk faults spot spot.problem) jumps all → Puts (λ spot. Member spot all) (with_stack service kind) old new →
    Puts (λ spot. HasJumpInside folder name kind spot ⊎ InWalk faults spot spot.problem) (with_stack service kind) old new
unfolding Member
puts-beside folder faults service name kind jumps all old new j w h =
    puts-iff (λ spot. Member spot all)
    (λ spot. HasJumpInside folder name kind spot ⊎ InWalk faults spot spot.problem)
    (with_stack service kind) old new
    (λ spot. (
      λ m. elim ((w.each spot).1 m) [
        | inl i ↦ elim ((j.each spot).1 i) [ inl n ↦ absurd n | inr x ↦ inl x ]
        | inr x ↦ inr x
      ],
      λ k. elim k [
        | inl x ↦ (w.each spot).0 (inl ((j.each spot).0 (inr x)))
        | inr x ↦ (w.each spot).0 (inr x)
      ],
    ))
    h
