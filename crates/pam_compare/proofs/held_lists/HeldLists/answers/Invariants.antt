use Rattle.std.proofs.Common.{List, ◌++◌}
use Rattle.pam_compare.specs.declared.held.HeldAnswer.{HeldAnswer}
use Rattle.pam_compare.specs.inner.HeldLists.{IsListed}
use Rattle.pam_compare.proofs.held_lists.HeldLists.answers.Given as goal

abbrev pub invariant-loop-at : goal.invariant-loop-at
invariant-loop-at l = record {
  rest : List HeldAnswer;
  is_rest : IsListed l.self.links.keys l.at rest;
  whole : IsListed l.self.links.keys l.number (l.held.items ++ rest);
}

abbrev pub decreases-loop-at : goal.decreases-loop-at
decreases-loop-at l = l.at
