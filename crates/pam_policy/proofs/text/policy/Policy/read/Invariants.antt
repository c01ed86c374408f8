-- the rules so far, and the lines that are left
use Rattle.std.proofs.Common.{◌≡◌, map}
use Rattle.pam_tables.specs.Lines.{lines_from, lines_left}
use Rattle.pam_policy.specs.text.Rules.{rule_view}
use Rattle.pam_policy.proofs.TextProofs.PolicySteps.{all_from}
use Rattle.pam_policy.proofs.text.policy.Policy.read.Given as goal

abbrev pub invariant-loop-number : goal.invariant-loop-number
invariant-loop-number l = record {
  can : (goal.iterator-loop-number).can_next l.number-iterator;
  finite : (goal.iterator-loop-number).is_finite l.number-iterator;
  same : all_from (map rule_view l.policy.rules.items) l.rules_before
      (lines_left l.number-iterator.is_done l.number-iterator.number l.number-iterator.rest.now)
      ≡ all_from (map rule_view l.initial.policy.rules.items) l.rules_before (lines_from 1 l.bytes);
}
