use Rattle.std.proofs.Common.{◌≡◌, ◌∙◌, ◌+◌, ◌∷◌, [], ℕ, ap, false, map, sym}
use Rattle.std.proofs.lemmas.List.{map-append}
use Rattle.std.proofs.lemmas.Result.{err_from_is_err_and}
use Rattle.pam_policy.specs.text.Policy.{counted_rule}
use Rattle.pam_policy.specs.text.Rules.{rule_view}
use Rattle.pam_policy.specs.text.Words.{words_of}
use Rattle.pam_policy.specs.text.inner.Words.{is_empty}
use Rattle.pam_policy.proofs.TextProofs.FaultSteps.{fails_as}
use Rattle.pam_policy.proofs.TextProofs.PolicySteps.{line_empty, rule_added, rule_fails}
use Rattle.pam_policy.proofs.text.policy.Policy.add_line.Goals as goal

pub returns-then-is_empty : goal.returns-then-is_empty
returns-then-is_empty c =
    line_empty (map rule_view c.args.self.now.rules.items) _ c.args.number (words_of c.args.line.now)
    (ap is_empty (sym c.of.ensures) ∙ sym c.is_empty.ensures ∙ c.if-is_empty.true)

pub returns-in_err-rule : goal.returns-in_err-rule
returns-in_err-rule c =
    let some : is_empty (words_of c.args.line.now) ≡ false = ap is_empty (sym c.of.ensures) ∙ sym c.is_empty.ensures ∙ c.if-is_empty.false in
    let error = err_from_is_err_and c.from_residual.result c.from_residual.ensures.1 in
    rw (error.1, error.2)
    (fails_as _ _ _ c.in_err-rule.ensures (λ is.
    rule_fails (map rule_view c.args.self.now.rules.items) _ c.args.number (words_of c.args.line.now) _ some
    (ap (λ (n : ℕ). counted_rule (c.args.rules_before + n) c.args.number (words_of c.args.line.now))
    (sym (c.len.ensures ∙ c.args.self.now.rules.ok.0)) ∙ is)))

pub returns : goal.returns
returns c =
    let some : is_empty (words_of c.args.line.now) ≡ false = ap is_empty (sym c.of.ensures) ∙ sym c.is_empty.ensures ∙ c.if-is_empty.false in
    rule_added (map rule_view c.args.self.now.rules.items) _ c.args.number (words_of c.args.line.now) (rule_view c.in_ok-rule.rule) _ some
    (ap (λ (n : ℕ). counted_rule (c.args.rules_before + n) c.args.number (words_of c.args.line.now))
    (sym (c.len.ensures ∙ c.args.self.now.rules.ok.0)) ∙ c.in_ok-rule.ensures)
    (ap (map rule_view) c.in_ok-push.ensures.items ∙ map-append rule_view c.args.self.now.rules.items (c.in_ok-rule.rule ∷ []))
