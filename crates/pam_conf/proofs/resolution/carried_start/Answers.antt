use Rattle.std.proofs.Common.{map, sym, ap, ◌∙◌, arith}
use Rattle.std.specs.List.{list_any}
use Rattle.std.proofs.lemmas.List.{drop_all}
use Rattle.pam_conf.specs.Resolution.{carried}
use Rattle.pam_conf.specs.inner.Kept.{kept_view}
use Rattle.pam_conf.specs.Walk.{carries}
use Rattle.pam_conf.proofs.ResolutionLemmas.{any-here, any-skip}
use Rattle.pam_conf.proofs.resolution.carried_start.Goals as goal

pub returns-then-has_service-clause-start : goal.returns-then-has_service-clause-start
returns-then-has_service-clause-start c =
    ap (λ b. carried b c.args.file c.args.service.now) (sym (c.loop-rule.invariant
    ∙ any-here c.args.service.now c.args.rules.now c.loop-rule.rule-index c.rule-item.result (omega arith) c.rule-item.is
    (sym c.has_service.ensures ∙ c.if-has_service.true)))

pub loop-rule-preserved : goal.loop-rule-preserved
loop-rule-preserved c =
    c.loop-rule.invariant ∙ any-skip c.args.service.now c.args.rules.now c.loop-rule.rule-index c.rule-item.result (omega arith) c.rule-item.is
    (sym c.has_service.ensures ∙ c.if-has_service.false)

pub returns-clause-start : goal.returns-clause-start
returns-clause-start c =
    ap (λ b. carried b c.args.file c.args.service.now) (sym (c.loop-rule.invariant
    ∙ ap (λ rs. list_any (carries c.args.service.now) (map kept_view rs)) (drop_all c.loop-rule.rule-index c.args.rules.now (omega arith))))
