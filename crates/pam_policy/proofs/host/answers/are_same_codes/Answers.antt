use Rattle.std.proofs.Common.{◌∙◌, sym}
use Rattle.std.proofs.lemmas.Bool.{eqb-true}
use Rattle.pam_codes.specs.inner.SetBits.{bits_of_codes}
use Rattle.pam_compare.proofs.Sameness.{codes-same}
use Rattle.pam_policy.proofs.host.answers.are_same_codes.Goals as goal

pub returns : goal.returns
returns c t =
    codes-same c.args.one c.args.other c.len-one.ensures.order c.len-other.ensures.order
    (eqb-true (bits_of_codes c.args.one) (bits_of_codes c.args.other) (sym c.eq.ensures ∙ t))
