use Rattle.std.proofs.Common.{◌∙◌, ap, map, refl, sym}
use Rattle.pam_policy.specs.text.Rules.{rule_view}
use Rattle.pam_policy.proofs.TextProofs.PolicySteps.{as_many, bytes_fail, fault_told, line_fails, line_read, lines_begin, lines_end, source_told}
use Rattle.pam_policy.proofs.text.policy.Policy.read.Goals as goal

pub returns-in-Err : goal.returns-in-Err
returns-in-Err c = rw c.of_source.ensures (source_told c.in-Err.fault _ (bytes_fail _ _ c.in-Err.fault c.in-Err.ensures))

pub returns-in-Err-add_line : goal.returns-in-Err-add_line
returns-in-Err-add_line c =
    rw c.at.ensures (fault_told _ c.in-Err-add_line.fault c.in-Some.number _ c.in-Err-add_line.ensures
    (λ is. sym (lines_begin c.args.bytes.now c.args.rules_before _ _ c.in-Ok.ensures.0 (ap (map rule_view) c.new.ensures.items) refl)
    ∙ sym c.loop-number.invariant.same
    ∙ line_fails (map rule_view c.loop-number.policy.rules.items) c.args.rules_before c.in-Some.number _ _ _ c.in-Some.ensures.steps _
    (as_many c.loop-number.policy.rules.items) c.in-Err-add_line.fault is))

pub loop-number-preserved : goal.loop-number-preserved
loop-number-preserved c = record {
  can = tt;
  finite = tt;
  same = line_read (map rule_view c.loop-number.policy.rules.items) c.args.rules_before c.in-Some.number _ _ _ c.in-Some.ensures.steps _
      (as_many c.loop-number.policy.rules.items) _ c.in_default.ensures
      ∙ c.loop-number.invariant.same;
}

pub returns : goal.returns
returns c =
    sym (lines_begin c.args.bytes.now c.args.rules_before _ _ c.in-Ok.ensures.0 (ap (map rule_view) c.new.ensures.items) refl)
    ∙ sym c.loop-number.invariant.same
    ∙ lines_end (map rule_view c.loop-number.policy.rules.items) c.args.rules_before _ c.in-None.ensures.steps.0
