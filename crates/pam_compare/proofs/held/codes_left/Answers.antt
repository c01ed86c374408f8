use Rattle.std.proofs.Common.{◌∙◌, ◌&&◌, ap, sym}
use Rattle.std.proofs.lemmas.Bool.{and_parts}
use Rattle.pam_codes.specs.Set.{is_in}
use Rattle.pam_compare.proofs.Holding.{where-passes}
use Rattle.pam_compare.proofs.Possible.{in-common}
use Rattle.pam_compare.proofs.held.codes_left.Goals as goal

pub returns-clause-kept : goal.returns-clause-kept
returns-clause-kept c x low member other =
    ap (is_in x) c.intersection.ensures ∙ in-common c.args.codes c.args.answer.codes x low member (other c.if-answer-name.false)

pub returns-clause-within : goal.returns-clause-within
returns-clause-within c x h =
    (and_parts (is_in x c.args.codes) (is_in x c.args.answer.codes)
    (where-passes (λ y. is_in y c.args.codes && is_in y c.args.answer.codes) x (sym (ap (is_in x) c.intersection.ensures) ∙ h))).0

pub returns-clause-left : goal.returns-clause-left
returns-clause-left c same x h =
    (and_parts (is_in x c.args.codes) (is_in x c.args.answer.codes)
    (where-passes (λ y. is_in y c.args.codes && is_in y c.args.answer.codes) x (sym (ap (is_in x) c.intersection.ensures) ∙ h))).1
