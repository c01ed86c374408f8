use Rattle.std.proofs.Common.{◌∙◌, ap, sym}
use Rattle.pam_report.proofs.Kept.{unaccepted-with, unaccepted-without}
use Rattle.pam_report.specs.Accepting.{accepts}
use Rattle.pam_report.proofs.report.accepting.not_accepted.Goals as goal
use Rattle.pam_report.proofs.report.accepting.not_accepted.Goals.{then-not-accepts+in_ok-push, else-not-accepts}

pub loop-one-preserved : goal.loop-one-preserved
loop-one-preserved g c =
    let lines = c.args.accept.now in
    let key_of = g.K.Keys.key_of c.args.by.now in
    let i = c.loop-one.one-index in
    let one = c.one-item in
    let kept = c.loop-one.kept.items in
    let accepted = sym (c.accepts.ensures ∙ ap (accepts lines) (c.deref.ensures.value ∙ c.in_ok-key.ensures)) in
    elim c.if-not-accepts.branch [
      | then-not-accepts+in_ok-push w ↦
          ap (λ v. v.items) w.kept-is ∙ w.in_ok-push.ensures.items
          ∙ unaccepted-with lines key_of c.args.found.now i one.result kept c.loop-one-test.true one.is c.loop-one.invariant
          (accepted ∙ w.if-not-accepts.true)
      | else-not-accepts w ↦
          ap (λ v. v.items) w.kept-is
          ∙ unaccepted-without lines key_of c.args.found.now i one.result kept c.loop-one-test.true one.is c.loop-one.invariant
          (accepted ∙ w.if-not-accepts.false)
    ]
