use Rattle.std.proofs.Common.{◌||◌, Bool, ap}
use Rattle.pam_released.specs.tables.Access.{has_mask_digits, has_zero_mask, is_loopback}
use Rattle.pam_released.proofs.TablesProofs.TokenSteps.{no_token, one_token}
use Rattle.pam_released.proofs.tables.access.origin_rows.Goals as goal

pub loop-token-preserved : goal.loop-token-preserved
loop-token-preserved c = record {
  can = tt;
  finite = tt;
  zero_mask = one_token has_zero_mask _ _ _ c.in-Some.token.now _ _ c.in-Some.ensures.steps
      (ap (λ (x : Bool). c.loop-token.rows.zero_mask || x) c.has_zero_mask.ensures) c.loop-token.invariant.zero_mask;
  mask_digits = one_token has_mask_digits _ _ _ c.in-Some.token.now _ _ c.in-Some.ensures.steps
      (ap (λ (x : Bool). c.loop-token.rows.mask_digits || x) c.has_mask_digits.ensures) c.loop-token.invariant.mask_digits;
  loopback = one_token is_loopback _ _ _ c.in-Some.token.now _ _ c.in-Some.ensures.steps
      (ap (λ (x : Bool). c.loop-token.rows.loopback || x) c.is_loopback.ensures) c.loop-token.invariant.loopback;
}

pub returns-clause-zero_mask : goal.returns-clause-zero_mask
returns-clause-zero_mask c = no_token has_zero_mask _ _ _ c.in-None.ensures.steps.0 c.loop-token.invariant.zero_mask

pub returns-clause-mask_digits : goal.returns-clause-mask_digits
returns-clause-mask_digits c = no_token has_mask_digits _ _ _ c.in-None.ensures.steps.0 c.loop-token.invariant.mask_digits

pub returns-clause-loopback : goal.returns-clause-loopback
returns-clause-loopback c = no_token is_loopback _ _ _ c.in-None.ensures.steps.0 c.loop-token.invariant.loopback
