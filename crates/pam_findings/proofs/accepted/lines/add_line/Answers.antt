use Rattle.std.proofs.Common.{◌∙◌, ap, eqb, map, sym}
use Rattle.std.proofs.lemmas.Result.{err_from_is_err_and}
use Rattle.std.proofs.lemmas.List.{map-append}
use Rattle.std.specs.List.{join_with_byte}
use Rattle.pam_findings.specs.accepted.Keys.{is_finding}
use Rattle.pam_findings.specs.accepted.Views.{line_view}
use Rattle.pam_findings.proofs.AcceptedProofs.LineSteps.{line_added, line_refused, line_skipped, memory_fails}
use Rattle.pam_findings.proofs.AcceptedProofs.WordSteps.{texts}
use Rattle.pam_findings.proofs.accepted.lines.add_line.Goals as goal

pub returns-in_err-words : goal.returns-in_err-words
returns-in_err-words c =
    let error = err_from_is_err_and c.from_residual.result c.from_residual.ensures.1 in
    memory_fails _ _ _ _ c.from_residual.result error.0 error.1 error.2

pub returns-then-is_empty : goal.returns-then-is_empty
returns-then-is_empty c = λ others.
    line_skipped c.args.number _ c.in_ok-words.words.items _ others c.in_ok-words.ensures
    (ap (λ n. eqb n 0) (sym c.in_ok-words.words.ok.0) ∙ sym c.is_empty.ensures ∙ c.if-is_empty.true)

pub returns-then-not-is_finding : goal.returns-then-not-is_finding
returns-then-not-is_finding c = λ others.
    line_refused c.args.number _ c.in_ok-words.words.items _ others c.in_ok-words.ensures
    (ap (λ n. eqb n 0) (sym c.in_ok-words.words.ok.0) ∙ sym c.is_empty.ensures ∙ c.if-is_empty.false)
    (ap (λ words. is_finding (texts words)) (sym c.deref.ensures.value) ∙ sym c.is_finding.ensures ∙ c.if-not-is_finding.true)

pub returns-in_err-key : goal.returns-in_err-key
returns-in_err-key c =
    let error = err_from_is_err_and c.from_residual-in_err-key.result c.from_residual-in_err-key.ensures.1 in
    memory_fails _ _ _ _ c.from_residual-in_err-key.result error.0 error.1 error.2

pub returns-in_err-push : goal.returns-in_err-push
returns-in_err-push c =
    let error = err_from_is_err_and c.from_residual-in_err-push.result c.from_residual-in_err-push.ensures.1 in
    memory_fails _ _ _ _ c.from_residual-in_err-push.result error.0 error.1 error.2

pub returns : goal.returns
returns c = λ others.
    line_added c.args.number _ c.in_ok-words.words.items _ others c.in_ok-words.ensures (map line_view c.push.new.self.items) c.in_ok-key.key.items
    (ap (λ n. eqb n 0) (sym c.in_ok-words.words.ok.0) ∙ sym c.is_empty.ensures ∙ c.if-is_empty.false)
    (ap (λ words. is_finding (texts words)) (sym c.deref.ensures.value) ∙ sym c.is_finding.ensures ∙ c.if-not-is_finding.false)
    (c.in_ok-key.ensures ∙ ap (λ words. join_with_byte 32 (texts words)) c.deref-2.ensures.value)
    (ap (map line_view) c.in_ok-push.ensures.items ∙ map-append line_view c.args.lines.now.items _)
