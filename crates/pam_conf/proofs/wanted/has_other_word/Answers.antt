use Rattle.std.proofs.Common.{◌∙◌, sym}
use Rattle.pam_conf.proofs.RuleSteps.{other_kind}
use Rattle.pam_conf.proofs.wanted.has_other_word.Goals as goal

pub returns-then-not-is_same : goal.returns-then-not-is_same
returns-then-not-is_same c = λ h. other_kind c.args.wanted _ _ _ (c.is_plain.ensures c.if-not-is_plain.false)
    (sym c.is_name.ensures ∙ c.if-is_name.false) (sym c.in-Ok.ensures) (sym c.is_same.ensures ∙ c.if-not-is_same.true) _ _
    c.in-Some.ensures (c.calls_module.ensures h)
