use Rattle.std.proofs.Common.{◌∙◌}
use Rattle.pam_facts.proofs.KindSteps.{at_end, at_start, no_kind, one_more}
use Rattle.pam_facts.proofs.kinds.Kinds.named.Goals as goal

pub loop-name-init : goal.loop-name-init
loop-name-init c = record {
  can = tt;
  finite = tt;
  same = rw (c.into_iter-name-iterator.ensures.into_iter_gives, c.empty-kinds.ensures) (at_start _ _ c.of-name-items.ensures);
}

pub returns-in_err-from_name : goal.returns-in_err-from_name
returns-in_err-from_name c =
    rw c.from_residual.ensures (no_kind c.loop-name.kinds _ _ _ c.in-Some.ensures.steps c.in_err-from_name.ensures ∙ c.loop-name.invariant.same)

pub loop-name-preserved : goal.loop-name-preserved
loop-name-preserved c = record {
  can = tt;
  finite = tt;
  same = rw c.insert.ensures (one_more _ c.loop-name.kinds _ _ _ c.in-Some.ensures.steps c.in_ok-from_name.ensures ∙ c.loop-name.invariant.same);
}

pub returns : goal.returns
returns c = at_end c.loop-name.kinds _ c.in-None.ensures.steps.0 ∙ c.loop-name.invariant.same
