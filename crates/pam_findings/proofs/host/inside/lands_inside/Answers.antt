use Rattle.std.proofs.Common.{◌∙◌, arith}
use Rattle.pam_findings.proofs.HostProofs.Jumping.{lands-over}
use Rattle.pam_findings.proofs.host.inside.lands_inside.Goals as goal

pub returns : goal.returns
returns c =
    c.share_other-2.ensures
    ∙ lands-over c.args.own.now c.args.rest.now c.args.over c.in-Some.after c.in-Some-get.before c.deref-2.result.now c.deref-3.result.now c.deref-4.result.now
    c.in-Some.ensures.lookup c.in-Some-get.ensures.lookup (omega (arith, c.if-over-eq0.false)) c.deref-2.ensures.value c.deref-3.ensures.value
    c.deref-4.ensures.value
