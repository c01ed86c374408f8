-- the words that are left go on from the part as all do from the first
use Rattle.std.proofs.Common.{◌≡◌}
use Rattle.pam_facts.specs.arguments.Conditions.{can_be_judged}
use Rattle.pam_facts.specs.arguments.inner.Conditions.{go_on}
use Rattle.pam_facts.proofs.arguments.conditions.can_be_judged.Given as goal

abbrev pub invariant-loop-word : goal.invariant-loop-word
invariant-loop-word l = record {
  can : (goal.iterator-loop-word).can_next l.word-iterator;
  finite : (goal.iterator-loop-word).is_finite l.word-iterator;
  same : go_on l.part l.word-iterator ≡ can_be_judged l.words;
}
