use Rattle.std.proofs.Common.{◌∙◌}
use Rattle.pam_released.proofs.Pushing.{findings_are}
use Rattle.pam_released.proofs.RuleLines.{same_rules}
use Rattle.pam_released.proofs.survey.findings.Goals as goal

pub returns-clause-silence : goal.returns-clause-silence
returns-clause-silence c = λ none. same_rules c.args.form c.args.source.bytes.now (findings_are c.args.form c.args.source.bytes.now
    c.deref.result.now c.deref-2.result.now _ (c.deref.ensures.value ∙ c.in_ok-at_lines.ensures) (c.deref-2.ensures.value ∙ c.in_ok-at_rules.ensures)
    c.in_ok-found.ensures ∙ none)
