use Rattle.std.proofs.Common.{◌∙◌, ◌++◌, ◌∷◌, [], ℕ, List, ap, not, sym}
use Rattle.std.specs.List.{list_any}
use Rattle.std.specs.Str.{bytes_eq}
use Rattle.pam_findings.specs.accepted.Lines.{Accepted}
use Rattle.pam_findings.specs.accepted.Views.{line_view}
use Rattle.pam_report.proofs.Kept.{number-with, number-without}
use Rattle.pam_report.proofs.report.accepting.unused.Goals as goal
use Rattle.pam_report.proofs.report.accepting.unused.Goals.{then-not-has+in_ok-push, else-not-has}

pub loop-line-preserved : goal.loop-line-preserved
loop-line-preserved c =
    let keys = c.args.keys.now in
    let p = λ (line : Accepted). not (list_any (bytes_eq line.1) keys) in
    let number = λ (line : Accepted). line.0 in
    let i = c.loop-line.line-index in
    let lines = c.lines-line-items.result.now in
    let same = c.deref.ensures.value ∙ ap (λ l. l.key.items) c.line-item.is in
    let known = sym (c.has.ensures ∙ ap (λ (key : List ℕ). list_any (bytes_eq key) keys) same) in
    elim c.if-not-has.branch [
      | then-not-has+in_ok-push w ↦
          ap (λ v. v.items) w.unused-is ∙ w.in_ok-push.ensures.items ∙ ap (λ l. c.loop-line.unused.items ++ l.number ∷ []) c.line-item.is
          ∙ number-with line_view number p lines i _ c.loop-line.unused.items c.loop-line-test.true c.loop-line.invariant
          (ap not (known ∙ w.if-not-has.true))
      | else-not-has w ↦
          ap (λ v. v.items) w.unused-is
          ∙ number-without line_view number p lines i _ c.loop-line.unused.items c.loop-line-test.true c.loop-line.invariant
          (ap not (known ∙ w.if-not-has.false))
    ]
