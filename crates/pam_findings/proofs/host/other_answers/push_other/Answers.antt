use Rattle.std.proofs.Common.{Bool, Option, subst, sym}
use Rattle.pam_findings.specs.host.inner.Lefts.{IsLeft}
use Rattle.pam_findings.specs.host.inner.Table.{Adds}
use Rattle.pam_findings.specs.declared.host.problem.Problem.TheVariants as problems
use Rattle.pam_findings.proofs.HostProofs.Adding.{adds-one}
use Rattle.pam_findings.proofs.HostProofs.Verdicted.{spot_of}
use Rattle.pam_findings.proofs.host.other_answers.push_other.Goals as goal

pub returns : goal.returns
returns c =
    let at = c.args.at in
    let none = c.in-Some.has_no_rule in
    let nobody = c.args.lets_nobody_in in
    let old = c.args.spots.now.items in
    let new = c.push.new.self.items in
    subst (λ (left : Option Bool). Adds (IsLeft at left nobody) old new) (sym c.in-Some.is)
    (adds-one old new (spot_of at (problems.OtherAnswers at.service at.kind none nobody)) c.in_ok-push.ensures.items)
