use Rattle.std.proofs.Common.{None, length}
use Rattle.pam_findings.specs.host.inner.OfFolder.{IsNameProblem, LacksOther}
use Rattle.pam_findings.specs.host.inner.Table.{with_met}
use Rattle.pam_findings.proofs.HostProofs.Passes.{puts-both, settles-met}
use Rattle.pam_findings.proofs.host.folder.put_whole.Goals as goal

pub returns : goal.returns
returns c =
    puts-both (LacksOther c.args.files.now) (IsNameProblem c.args.files.now (length c.args.files.now.entries)) (with_met None)
    c.args.table.now c.put_other.new.table c.put_names.new.table (settles-met None) c.in_ok-put_other.ensures c.in_ok-put_names.ensures
