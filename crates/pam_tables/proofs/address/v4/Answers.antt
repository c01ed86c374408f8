use Rattle.std.proofs.Common.{◌∙◌, sym}
use Rattle.pam_tables.proofs.Addresses.{v4_none, v4_one, v4_two, v4_three}
use Rattle.pam_tables.proofs.address.v4.Goals as goal

pub returns-in_err-first : goal.returns-in_err-first
returns-in_err-first c = c.from_residual.ensures ∙ v4_none c.args.text.now c.in_err-first.ensures.value

pub returns-in_err-second : goal.returns-in_err-second
returns-in_err-second c = c.from_residual-in_err-second.ensures ∙ v4_one c.args.text.now _ _ c.in_ok-first.ensures.value c.in_err-second.ensures.value

pub returns-in_err-third : goal.returns-in_err-third
returns-in_err-third c =
    c.from_residual-in_err-third.ensures ∙ v4_two c.args.text.now _ _ _ _ c.in_ok-first.ensures.value c.in_ok-second.ensures.value c.in_err-third.ensures.value

pub returns : goal.returns
returns c = c.octets.ensures ∙ sym (v4_three c.args.text.now _ _ _ _ _ _ c.in_ok-first.ensures.value c.in_ok-second.ensures.value c.in_ok-third.ensures.value)
