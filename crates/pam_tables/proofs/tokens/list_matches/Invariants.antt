use Rattle.std.proofs.Common.{◌≡◌, List, Ok, map}
use Rattle.pam_tables.specs.Lists.{list_matches}
use Rattle.pam_tables.specs.Tokens.{each_token, tokens_of}
use Rattle.pam_tables.proofs.TokenSteps.{Left}
use Rattle.pam_tables.proofs.tokens.list_matches.Given as goal

abbrev pub invariant-loop-token : goal.invariant-loop-token
invariant-loop-token g l = record {
  can : (goal.iterator-loop-token g).can_next l.token-iterator;
  finite : (goal.iterator-loop-token g).is_finite l.token-iterator;
  left : (meanings : List g.M.Matcher.Meaning) → each_token g.M.Matcher.meant (tokens_of l.fn.separators.bytes.now l.fn.text) ≡ Ok meanings →
      Left g.M.Matcher.meant (g.M.Matcher.marked l.matcher) l.parts (tokens_of l.token-iterator.separators.now.bytes.now l.token-iterator.rest.now)
      (list_matches (map (g.M.Matcher.marked l.matcher) meanings));
}
