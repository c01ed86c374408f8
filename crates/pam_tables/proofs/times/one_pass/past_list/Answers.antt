use Rattle.std.proofs.Common.{◌∙◌, refl, sym}
use Rattle.pam_tables.specs.times.inner.OnePass.{before}
use Rattle.pam_tables.proofs.TimesProofs.CheckSteps.{list_fault}
use Rattle.pam_tables.proofs.TimesProofs.OnePassSteps.{end_here, end_semicolon, next_end, next_item}
use Rattle.pam_tables.proofs.times.one_pass.past_list.Goals as goal

pub loop-left-init : goal.loop-left-init
loop-left-init c = record { list = list_fault c.args.field (before c.args.text.now); end = refl }

pub returns-in_default-split_first-clause-list : goal.returns-in_default-split_first-clause-list
returns-in_default-split_first-clause-list c =
    end_here c.args.field _ c.loop-left.rest.now c.loop-left.invariant.list c.in-Some.left.now c.in-Some.ensures.item c.in_default-split_first.ensures.cases

pub returns-then-first-eq59-clause-list : goal.returns-then-first-eq59-clause-list
returns-then-first-eq59-clause-list c =
    end_semicolon c.args.field _ c.loop-left.rest.now c.loop-left.invariant.list c.in-Some.left.now c.in-Some.ensures.item
    _ _ c.in-Some-split_first.ensures.cases.0 c.if-first-eq59.true

pub loop-left-preserved : goal.loop-left-preserved
loop-left-preserved c =
    let joint = sym c.is_joint.ensures ∙ c.if-not-is_joint.false in
    record {
      list = next_item c.args.field _ c.loop-left.rest.now c.loop-left.invariant.list c.in-Some.left.now c.in-Some.ensures.item
          _ _ c.in-Some-split_first.ensures.cases.0 joint;
      end = next_end c.args.field _ c.loop-left.rest.now c.loop-left.invariant.list c.in-Some.left.now c.in-Some.ensures.item
          _ _ c.in-Some-split_first.ensures.cases.0 joint ∙ c.loop-left.invariant.end;
    }
