use Rattle.pam_policy.proofs.SearchProofs.Graphs.{graphs-of}
use Rattle.pam_policy.proofs.search.laws.graphs.Goals as goal

pub returns : goal.returns
returns c = graphs-of
