use Rattle.pam_findings.proofs.HostProofs.Linked as linked
use Rattle.pam_findings.proofs.host.laws.links_are_notes.Goals as goal

pub returns : goal.returns
returns c = linked.links_are_notes
