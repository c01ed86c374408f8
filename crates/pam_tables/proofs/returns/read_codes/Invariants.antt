use Rattle.std.proofs.Common.{◌≡◌, []}
use Rattle.pam_codes.specs.Set.{IsCodeSet}
use Rattle.pam_tables.specs.Tokens.{tokens_of}
use Rattle.pam_tables.proofs.ReturnSteps.{codes_with}
use Rattle.pam_tables.proofs.returns.read_codes.Given as goal

abbrev pub invariant-loop-word : goal.invariant-loop-word
invariant-loop-word l = record {
  can : (goal.iterator-loop-word).can_next l.word-iterator;
  finite : (goal.iterator-loop-word).is_finite l.word-iterator;
  order : IsCodeSet l.set;
  same : codes_with l.set (tokens_of l.word-iterator.separators.now.bytes.now l.word-iterator.rest.now)
      ≡ codes_with [] (tokens_of l.fn.blanks.bytes.now l.text);
}
