use Rattle.std.proofs.Common.{◌∙◌, ap}
use Rattle.pam_findings.specs.host.inner.Meeting.{also_met}
use Rattle.std.proofs.lemmas.Result.{on_ok_weaker}
use Rattle.pam_findings.proofs.HostProofs.Passes.{puts-stack}
use Rattle.pam_findings.proofs.host.table.put_stack.Goals as goal

pub returns : goal.returns
returns c =
    on_ok_weaker c.put.result
    (puts-stack c.args.service c.args.kind c.in_ok-met.met c.args.spot c.args.table.now c.put.new.table
    (c.in_ok-met.ensures ∙ ap (also_met c.args.service c.args.kind) c.met_at.ensures))
    c.put.ensures
