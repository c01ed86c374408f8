use Rattle.std.proofs.Common.{◌≡◌}
use Rattle.pam_tables.specs.Error.{verdict}
use Rattle.pam_tables.specs.Tokens.{each_token, tokens_of}
use Rattle.pam_tables.proofs.tokens.check_tokens.Given as goal

abbrev pub invariant-loop-token : goal.invariant-loop-token
invariant-loop-token g l = record {
  can : (goal.iterator-loop-token g).can_next l.token-iterator;
  finite : (goal.iterator-loop-token g).is_finite l.token-iterator;
  same : verdict (each_token g.M.Matcher.meant (tokens_of l.token-iterator.separators.now.bytes.now l.token-iterator.rest.now))
      ≡ verdict (each_token g.M.Matcher.meant (tokens_of l.fn.separators.bytes.now l.fn.text));
}
