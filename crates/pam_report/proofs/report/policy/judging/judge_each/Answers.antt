use Rattle.std.proofs.Common.{◌≡◌, ◌∙◌, ◌∷◌, List, [], ap, map, subst, sym}
use Rattle.std.specs.Vec.Iter.{into_iter_items}
use Rattle.pam_policy.specs.declared.text.policy.Policy.{Policy}
use Rattle.pam_policy.specs.host.Told.{told_stacks}
use Rattle.pam_policy.specs.names.Host.{host_view}
use Rattle.pam_report.proofs.PolicySteps.{AreJudged, judged-more, none-judged}
use Rattle.pam_report.specs.Policy.{name_at}
use Rattle.pam_report.specs.declared.report.policy.JudgedPolicy.{JudgedPolicy}
use Rattle.pam_report.proofs.report.policy.judging.judge_each.Goals as goal

pub loop-policy-init : goal.loop-policy-init
loop-policy-init c =
    let names = map (λ n. n.now) c.args.names.now in
    let host = host_view c.args.host.now in
    let stacks = told_stacks c.args.facts.now c.args.stacks.now in
    subst (λ (judged : List JudgedPolicy). AreJudged names host stacks judged (into_iter_items c.into_iter-policy-iterator.result) c.args.policies.items)
    (sym c.new-judged.ensures.items)
    (subst (λ (left : List Policy). AreJudged names host stacks [] left c.args.policies.items) (sym c.into_iter-policy-iterator.ensures.into_iter_gives.0)
    (none-judged names host stacks c.args.policies.items))

pub loop-policy-preserved : goal.loop-policy-preserved
loop-policy-preserved c =
    let names = map (λ n. n.now) c.args.names.now in
    let host = host_view c.args.host.now in
    let stacks = told_stacks c.args.facts.now c.args.stacks.now in
    let left = into_iter_items c.next.new.self in
    let here : into_iter_items c.loop-policy.policy-iterator ≡ c.in-Some.policy ∷ left = c.in-Some.ensures.steps.0 in
    let before = subst (λ (those : List Policy). AreJudged names host stacks c.loop-policy.judged.items those c.args.policies.items) here
    c.loop-policy.invariant in
    let after = judged-more names host stacks c.loop-policy.judged.items left c.args.policies.items c.in-Some.policy c.in_ok-one.one before
    (c.in_ok-one.ensures.name ∙ c.name_at-name.ensures ∙ ap (name_at names) (c.len.ensures ∙ c.loop-policy.judged.ok.0)) c.in_ok-one.ensures.rules c.in_ok-one.ensures.reports in
    subst (λ (judged : List JudgedPolicy). AreJudged names host stacks judged left c.args.policies.items) (sym c.in_ok-push.ensures.items) after
