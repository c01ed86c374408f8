use Rattle.std.proofs.Common.{◌≡◌, ◌∙◌, ◌≤◌, ◌+◌, ◌∷◌, ℕ, List, length, map, subst, sym}
use Rattle.std.proofs.lemmas.List.{length-map}
use Rattle.std.proofs.lemmas.Result.{err_from_is_err_and}
use Rattle.pam_policy.specs.declared.text.policy.Policy.{Policy}
use Rattle.pam_policy.specs.text.Policy.{rules_of}
use Rattle.pam_policy.specs.text.Rules.{rule_view}
use Rattle.pam_report.proofs.PolicySteps.{AreRead, all-read, none-read, read-fault, read-more}
use Rattle.pam_report.specs.inner.Policy.{IsUnreadAlone}
use Rattle.pam_report.proofs.report.policy.reading.read_each.Goals as goal

pub loop-bytes-preserved : goal.loop-bytes-preserved
loop-bytes-preserved c =
    let texts = c.args.texts.now in
    let policies = c.loop-bytes.policies.items in
    let before = c.loop-bytes.before in
    let policy = c.in_ok-policy.policy in
    let so_far = subst (λ (left : List (List ℕ)). AreRead texts policies before left) c.in-Some.ensures.steps c.loop-bytes.invariant in
    let few : before + length policy.rules.items ≤ 1000 =
    subst (λ (count : ℕ). before + count ≤ 1000) (length-map policy.rules.items rule_view)
    (c.rules_are_few.ensures c.in-Some.bytes.now before (map rule_view policy.rules.items) so_far.few c.in_ok-policy.ensures) in
    subst (λ (count : ℕ). AreRead texts c.add.new.policies.items (before + count) c.next.new.self) (sym (c.len-before.ensures ∙ policy.rules.ok.0))
    (subst (λ (those : List Policy). AreRead texts those (before + length policy.rules.items) c.next.new.self) (sym c.in_ok-add.ensures.items)
    (read-more texts policies before c.in-Some.bytes.now c.next.new.self so_far policy c.in_ok-policy.ensures few))

pub returns-in_err-policy : goal.returns-in_err-policy
returns-in_err-policy c =
    let texts = c.args.texts.now in
    let policies = c.loop-bytes.policies.items in
    let before = c.loop-bytes.before in
    let so_far = subst (λ (left : List (List ℕ)). AreRead texts policies before left) c.in-Some.ensures.steps c.loop-bytes.invariant in
    let p = err_from_is_err_and c.from_residual.result c.from_residual.ensures.1 in
    let fault = c.in_err-policy.field-0.0 in
    let unread = subst (λ (count : ℕ). IsUnreadAlone (count + 1) (rules_of c.in-Some.bytes.now before) fault)
    (c.len.ensures ∙ c.loop-bytes.policies.ok.0) c.in_err-policy.ensures in
    rw (p.1, p.2) (read-fault texts policies before c.in-Some.bytes.now c.next.new.self so_far fault unread)

pub returns : goal.returns
returns c =
    all-read c.args.texts.now c.loop-bytes.policies.items c.loop-bytes.before
    (subst (λ (left : List (List ℕ)). AreRead c.args.texts.now c.loop-bytes.policies.items c.loop-bytes.before left) c.in-None.ensures.steps.0
    c.loop-bytes.invariant)
