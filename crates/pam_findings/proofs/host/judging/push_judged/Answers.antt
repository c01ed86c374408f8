use Rattle.std.proofs.Common.{List, subst, ℕ}
use Rattle.pam_text.specs.Members.{Member}
use Rattle.pam_findings.specs.host.inner.Looked.{OfModules, judgement_in}
use Rattle.pam_findings.specs.host.inner.Table.{Adds}
use Rattle.pam_findings.specs.declared.host.problem.Problem.TheVariants as problems
use Rattle.pam_findings.proofs.HostProofs.Verdicted.{adds-judged, says}
use Rattle.pam_findings.proofs.host.judging.push_judged.Goals as goal

pub returns : goal.returns
returns c =
    adds-judged c.args.at (judgement_in c.args.of.now)
    c.lets_nobody_in-nobody.result c.lets_anybody_in-anybody.result
    (says c.lets_nobody_in-nobody.result c.lets_nobody_in-nobody.ensures.yes (λ f p. c.lets_nobody_in-nobody.ensures.no f p.0 p.1 p.2))
    (says c.lets_anybody_in-anybody.result c.lets_anybody_in-anybody.ensures.yes (λ f p. c.lets_anybody_in-anybody.ensures.no f p.0 p.1 p.2))
    c.args.spots.now.items c.push_whole.new.spots.items c.push_whole-2.new.spots.items c.push_jumps.new.spots.items
    c.push_vain.new.spots.items c.push_halves.new.spots.items c.push_taking.new.spots.items c.push_stored.new.spots.items
    c.push_uncounted.new.spots.items
    c.in_ok-push_whole.ensures c.in_ok-push_whole-2.ensures
    (subst (λ (numbers : List ℕ). Adds (OfModules problems.JumpPastEnd c.args.of.now.stack.now (λ number. Member number numbers)) c.push_whole-2.new.spots.items
    c.push_jumps.new.spots.items) c.deref.ensures.value c.in_ok-push_jumps.ensures)
    (c.in_ok-push_vain.ensures c.args.of.now.free.now c.args.of.now.causes)
    (c.in_ok-push_halves.ensures c.args.of.now.free.now c.args.of.now.failing.now c.args.of.now.causes) c.in_ok-push_taking.ensures
    c.in_ok-push_stored.ensures c.in_ok-push_uncounted.ensures
