use Rattle.std.proofs.Common.{◌∙◌, sym}
use Rattle.pam_conf.proofs.RuleSteps.{neither, other_service}
use Rattle.pam_conf.proofs.wanted.has_other_service.Goals as goal
use Rattle.pam_conf.specs.declared.wanted.Wanted.TheVariants.{OfServices}

pub returns-in-Ok : goal.returns-in-Ok
returns-in-Ok c = λ h. other_service (OfServices c.args.service c.args.other) _ _ _ _
    (c.is_plain.ensures c.if-not-is_plain.false) (sym c.is_name.ensures ∙ c.if-is_name.false)
    (c.is_plain-2.ensures c.if-not-is_plain-2.false) (sym c.in-Ok.ensures)
    (λ x e. neither c.args.service.now c.args.other.now _ x (sym c.is_name-2.ensures ∙ c.if-is_name-2.false)
    (sym c.is_name-else-is_name-2.ensures ∙ c.if-is_name-3.false) e) _ _ _
    c.in-Some.ensures c.in-Some-split_word.ensures (c.calls_module.ensures h)
