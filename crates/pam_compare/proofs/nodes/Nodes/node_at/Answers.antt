use Rattle.std.proofs.Common.{sym}
use Rattle.pam_compare.proofs.nodes.Nodes.node_at.Goals as goal

pub returns : goal.returns
returns c = (
  c.in-Some.situation.now,
  sym c.in-Some.ensures.key,
  record { old = c.at.ensures; new = c.at-2.ensures; held = c.in_ok-held.ensures },
)

pub answers-requires : goal.answers-requires
answers-requires c = c.requires.nodes.2.listed c.args.index c.in-Some.situation.now (sym c.in-Some.ensures.key)
