use Rattle.pam_findings.proofs.HostProofs.Linked.{with-links}
use Rattle.pam_findings.proofs.host.report.HostReport.add_links.Goals as goal

pub returns-clause-links : goal.returns-clause-links
returns-clause-links c =
    with-links c.args.outside.now c.args.self.now.found c.put_links.new.table c.len-count.ensures.ordered c.in_ok-put_links.ensures
