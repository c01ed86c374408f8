use Rattle.std.proofs.Common.{◌≡◌}
use Rattle.pam_facts.specs.Codes.{codes_said}
use Rattle.pam_facts.specs.Words.{words_of}
use Rattle.pam_facts.proofs.CodeSteps.{AreCodeSets, read_with}
use Rattle.pam_facts.proofs.reading.read_codes.Given as goal

abbrev pub invariant-loop-word : goal.invariant-loop-word
invariant-loop-word l = record {
  can : (goal.iterator-loop-word).can_next l.word-iterator;
  finite : (goal.iterator-loop-word).is_finite l.word-iterator;
  sets : AreCodeSets l.codes;
  same : read_with l.codes l.kinds l.needs_code (words_of l.word-iterator.rest.now) ≡ codes_said (words_of l.text);
}
