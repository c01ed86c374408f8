use Rattle.std.proofs.Common.{◌≡◌, ◌+◌, ◌-◌, length, ap, ◌∙◌, sym, arith}
use Rattle.pam_conf.specs.Stack.{SubList}
use Rattle.pam_conf.specs.ItemsOf.{items_of}
use Rattle.pam_paths.specs.Known.{may_answer}
use Rattle.pam_findings.specs.stack.inner.PastEnd.{passes}
use Rattle.pam_findings.proofs.StackProofs.Walked.{where-end, where-module, where-sub}
use Rattle.pam_findings.proofs.stack.past_end.+push_passing.Goals.{in-Module+in_ok-push_if_passing-in-Module, in-Sub+in_ok-push_passing-in-Sub}
use Rattle.pam_findings.proofs.stack.past_end.+push_passing.Goals as goal

pub loop-item-preserved : goal.loop-item-preserved
loop-item-preserved t c =
    let index = c.loop-item.item-index in
    let items = c.args.items.now in
    let test = passes (may_answer c.args.known.now) c.args.asked.now in
    let counted : c.loop-item.items_after - 1 + (index + 1) ≡ length items = omega (arith, c.loop-item.invariant.1, c.loop-item-test.true) in
    elim c.match-item.branch [
      | in-Module+in_ok-push_if_passing-in-Module w ↦ (
        rw (w.numbers-is, w.in_ok-push_if_passing-in-Module.ensures)
            (where-module test index (c.loop-item.items_after - 1) items c.loop-item.numbers.items c.item-item.result w.in-Module.module
            c.loop-item-test.true (sym c.item-item.is ∙ w.in-Module.is) counted
            ∙ c.loop-item.invariant.0),
        counted,
      )
      | in-Sub+in_ok-push_passing-in-Sub w ↦ (
        let inner : items_of w.deref.result.now ≡ w.in-Sub.sub.inner = ap items_of w.deref.ensures.value ∙ ap (λ (s : SubList). s.inner) w.sub.view_is in
            rw (w.numbers-is, w.in_ok-push_passing-in-Sub.ensures, inner)
            (where-sub test index items c.loop-item.numbers.items c.item-item.result w.in-Sub.sub c.loop-item-test.true
            (sym c.item-item.is ∙ w.in-Sub.is)
            ∙ c.loop-item.invariant.0),
        counted,
      )
    ]

pub returns : goal.returns
returns t c =
    let test = passes (may_answer c.args.known.now) c.args.asked.now in
    sym (where-end test c.loop-item.item-index c.args.items.now c.loop-item.numbers.items c.loop-item-test.false)
    ∙ c.loop-item.invariant.0
