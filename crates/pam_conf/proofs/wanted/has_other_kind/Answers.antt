use Rattle.std.proofs.Common.{◌∙◌, sym}
use Rattle.pam_conf.proofs.RuleSteps.{other_named}
use Rattle.pam_conf.proofs.wanted.has_other_kind.Goals as goal

pub returns-then-not-is_same : goal.returns-then-not-is_same
returns-then-not-is_same c = λ h. other_named c.args.wanted _ (sym c.is_same.ensures ∙ c.if-not-is_same.true) _ _ c.in-Some.ensures (c.calls_module.ensures h)
