use Rattle.pam_findings.proofs.HostProofs.LettingIn.{first_way_lets_in, ways_in_let_in}
use Rattle.pam_findings.proofs.host.laws.a_way_in_lets_in.Goals as goal

pub returns : goal.returns
returns c = record {
  first = first_way_lets_in;
  each = ways_in_let_in;
}
