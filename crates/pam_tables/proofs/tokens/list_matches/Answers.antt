use Rattle.std.proofs.Common.{◌∙◌, sym}
use Rattle.pam_tables.proofs.TokenSteps.{token_marked, last_token}
use Rattle.pam_tables.proofs.tokens.list_matches.Goals as goal

pub loop-token-init : goal.loop-token-init
loop-token-init g c = record {
  can = tt;
  finite = tt;
  left = λ meanings h. record {
    rest = meanings;
    are = rw (c.into_iter-token-iterator.ensures.into_iter_gives, c.of-token-items.ensures) h;
    same = sym (c.new-parts.ensures _);
  };
}

pub loop-token-preserved : goal.loop-token-preserved
loop-token-preserved g c = record {
  can = tt;
  finite = tt;
  left = λ meanings h.
      token_marked g.M.Matcher.meant _ _ _ c.in-Some.ensures.steps _ _ _ _ _ c.mark.ensures c.then-parts.ensures
      (c.loop-token.invariant.left meanings h);
}

pub returns : goal.returns
returns g c = λ meanings h. c.matches.ensures ∙ last_token g.M.Matcher.meant _ _ _ _ c.in-None.ensures.steps.0 (c.loop-token.invariant.left meanings h)
