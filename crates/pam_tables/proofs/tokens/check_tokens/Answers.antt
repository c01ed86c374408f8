use Rattle.std.proofs.Common.{◌∙◌, sym, refl}
use Rattle.std.proofs.lemmas.Result.{err_from_is_err_and}
use Rattle.pam_tables.proofs.TokenSteps.{token_passes, token_fails, no_token}
use Rattle.pam_tables.proofs.tokens.check_tokens.Goals as goal

pub loop-token-init : goal.loop-token-init
loop-token-init g c = record { can = tt; finite = tt; same = rw (c.into_iter-token-iterator.ensures.into_iter_gives, c.of-token-items.ensures) refl }

pub returns-in_err-check : goal.returns-in_err-check
returns-in_err-check g c =
    let p = err_from_is_err_and c.from_residual.result c.from_residual.ensures.1 in
    rw (p.1, p.2) (token_fails g.M.Matcher.meant _ _ _ c.in-Some.ensures.steps _ (sym c.in_err-check.was ∙ c.check.ensures) ∙ c.loop-token.invariant.same)

pub loop-token-preserved : goal.loop-token-preserved
loop-token-preserved g c = record {
  can = tt;
  finite = tt;
  same = token_passes g.M.Matcher.meant _ _ _ c.in-Some.ensures.steps (sym c.in_ok-check.was ∙ c.check.ensures) ∙ c.loop-token.invariant.same;
}

pub returns : goal.returns
returns g c = no_token g.M.Matcher.meant _ c.in-None.ensures.steps.0 ∙ c.loop-token.invariant.same
