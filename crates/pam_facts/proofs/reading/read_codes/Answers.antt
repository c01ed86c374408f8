use Rattle.std.proofs.Common.{◌∙◌}
use Rattle.pam_facts.proofs.CodeSteps.{any_are_sets, at_end, at_start, code_needed, code_read, code_refused, kinds_missing, kinds_read, kinds_refused}
use Rattle.pam_facts.proofs.CodeSteps.{put_are_sets}
use Rattle.pam_facts.proofs.reading.read_codes.Goals as goal

pub loop-word-init : goal.loop-word-init
loop-word-init c = record {
  can = tt;
  finite = tt;
  sets = rw c.any-codes.ensures any_are_sets;
  same = rw (c.into_iter-word-iterator.ensures.into_iter_gives, c.any-codes.ensures) (at_start _ _ c.of-word-items.ensures);
}

pub returns-then-needs_code : goal.returns-then-needs_code
returns-then-needs_code c =
    kinds_refused c.loop-word.codes c.loop-word.kinds _ _ _ c.in-Some.ensures.steps _ c.in-Some-named.ensures
    ∙ (rw c.if-needs_code.true at c.loop-word.invariant.same)

pub loop-word-preserved-in-Some-named : goal.loop-word-preserved-in-Some-named
loop-word-preserved-in-Some-named c = record {
  can = tt;
  finite = tt;
  sets = c.loop-word.invariant.sets;
  same = kinds_read c.loop-word.codes c.loop-word.kinds _ _ _ c.in-Some.ensures.steps _ c.in-Some-named.ensures
      ∙ (rw c.if-needs_code.false at c.loop-word.invariant.same);
}

pub returns-in_err-kinds : goal.returns-in_err-kinds
returns-in_err-kinds c =
    rw c.from_residual.ensures (kinds_missing c.loop-word.codes c.loop-word.kinds _ _ _ c.in-Some.ensures.steps c.loop-word.needs_code c.in_default.ensures
    c.in_err-kinds.was ∙ c.loop-word.invariant.same)

pub returns-in_err-from_name : goal.returns-in_err-from_name
returns-in_err-from_name c =
    rw c.from_residual-in_err-from_name.ensures (code_refused c.loop-word.codes c.loop-word.kinds _ _ _ c.in-Some.ensures.steps c.loop-word.needs_code
    c.in_default.ensures c.in_err-from_name.ensures ∙ c.loop-word.invariant.same)

pub loop-word-preserved : goal.loop-word-preserved
loop-word-preserved c = record {
  can = tt;
  finite = tt;
  sets = put_are_sets c.loop-word.codes _ c.in_ok-kinds.field-0 c.in_ok-from_name.field-0 c.insert.ensures c.loop-word.invariant.sets;
  same = code_read c.loop-word.codes _ c.loop-word.kinds c.in_ok-kinds.field-0 c.loop-word.needs_code c.in_ok-from_name.field-0 _ _ _
      c.in-Some.ensures.steps c.in_default.ensures c.in_ok-kinds.was c.in_ok-from_name.ensures c.insert.ensures ∙ c.loop-word.invariant.same;
}

pub returns-then-needs_code-2 : goal.returns-then-needs_code-2
returns-then-needs_code-2 c =
    code_needed c.loop-word.codes c.loop-word.kinds c.loop-word.needs_code _ c.in-None.ensures.steps.0 c.if-needs_code-2.true ∙ c.loop-word.invariant.same

pub returns : goal.returns
returns c =
    at_end c.loop-word.codes c.loop-word.kinds c.loop-word.needs_code _ c.loop-word.invariant.sets c.in-None.ensures.steps.0 c.if-needs_code-2.false
    ∙ c.loop-word.invariant.same
