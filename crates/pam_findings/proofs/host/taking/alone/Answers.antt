use Rattle.pam_findings.proofs.HostProofs.Tokens.{alone-marked}
use Rattle.pam_findings.proofs.host.taking.alone.Goals as goal

pub returns : goal.returns
returns c = alone-marked 256 c.args.number c.mark.new.marks c.mark.ensures
