use Rattle.std.proofs.Common.{◌∙◌}
use Rattle.pam_facts.proofs.ArgumentProofs.TableSteps.{at_start, line_put}
use Rattle.pam_facts.proofs.arguments.index.index_of.Goals as goal

pub loop-line-init : goal.loop-line-init
loop-line-init c = record {
  can = tt;
  finite = tt;
  same = λ name.
      rw c.into_iter-line-iterator.ensures.into_iter_gives (at_start name c.args.text.now _ _ c.new-index.ensures.empty c.of-line-items.ensures);
}

pub loop-line-preserved-in_ok-insert : goal.loop-line-preserved-in_ok-insert
loop-line-preserved-in_ok-insert c = record {
  can = tt;
  finite = tt;
  same = λ name. line_put name c.loop-line.index.entries _ _ _ _ _ _ c.in-Some.ensures.steps c.in-Some-cut.ensures.value
      c.in_ok-insert.ensures.entries
      ∙ c.loop-line.invariant.same name;
}
