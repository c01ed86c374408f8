use Rattle.std.proofs.Common.{◌≡◌, ◌+◌, ◌-◌, length, ap, ◌∙◌, sym, arith}
use Rattle.pam_conf.specs.Stack.{SubList}
use Rattle.pam_conf.specs.ItemsOf.{items_of}
use Rattle.pam_dispatch.proofs.FlatLists.{flat_list-module, flat_list-sub, flat_list-end, shallow-after}
use Rattle.pam_dispatch.proofs.flatten.+flatten.Goals.{in-Module+in_ok-push-in-Module, in-Sub+in_ok-push-in-Sub+in_ok-flatten-in-Sub}
use Rattle.pam_dispatch.proofs.flatten.+flatten.Goals as goal

pub loop-item-preserved : goal.loop-item-preserved
loop-item-preserved t c =
    let level = c.args.level in
    let index = c.loop-item.item-index in
    let items = c.args.items.now in
    let counted : c.loop-item.items_after - 1 + (index + 1) ≡ length items = omega (arith, c.loop-item.invariant.1, c.loop-item-test.true) in
    let shallow = shallow-after level index items c.loop-item.invariant.2 in
    elim c.match-item.branch [
      | in-Module+in_ok-push-in-Module w ↦ (
        let flat_items = c.loop-item.flat_items.items in
            let is = sym c.item-item.is ∙ w.in-Module.is in
            let after = c.loop-item.items_after - 1 in
            rw (w.flat_items-is, w.in_ok-push-in-Module.ensures.items)
            (flat_list-module level index after items flat_items c.item-item.result w.in-Module.module c.loop-item-test.true is counted
            ∙ c.loop-item.invariant.0),
        counted,
        shallow,
      )
      | in-Sub+in_ok-push-in-Sub+in_ok-flatten-in-Sub w ↦ (
        let inner : items_of w.deref.result.now ≡ w.in-Sub.sub.inner = ap items_of w.deref.ensures.value ∙ ap (λ (s : SubList). s.inner) w.sub.view_is in
            rw (w.flat_items-is, w.in_ok-flatten-in-Sub.ensures, w.in_ok-push-in-Sub.ensures.items, inner)
            (flat_list-sub level index items c.loop-item.flat_items.items c.item-item.result w.in-Sub.sub c.loop-item-test.true
            (sym c.item-item.is ∙ w.in-Sub.is)
            ∙ c.loop-item.invariant.0),
        counted,
        shallow,
      )
    ]

pub returns : goal.returns
returns t c =
    sym (flat_list-end c.args.level c.loop-item.item-index c.args.items.now c.loop-item.flat_items.items c.loop-item-test.false)
    ∙ c.loop-item.invariant.0
