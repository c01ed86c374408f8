use Rattle.std.proofs.Common.{◌≡◌, ◌+◌, ◌-◌, ◌&&◌, ◌++◌, ◌∷◌, [], List, ℕ, length, ap, ◌∙◌, sym, arith, drop}
use Rattle.pam_codes.specs.Set.{codes_where, is_in}
use Rattle.pam_conf.specs.declared.stack.Module.{Module}
use Rattle.pam_conf.specs.ItemsOf.{items_of, module_text}
use Rattle.pam_conf.specs.Stack.{Items, SubList}
use Rattle.pam_dispatch.specs.State.{action_of}
use Rattle.pam_graph.specs.PastEnds.{is_past_end, past_ends}
use Rattle.pam_graph.proofs.Passing.{past-end, past-module, past-sub}
use Rattle.pam_graph.proofs.past_ends.+push_past_ends.Goals.{in-Module+in_ok-push-in-Module, in-Sub+in_ok-push_past_ends-in-Sub}
use Rattle.pam_graph.proofs.past_ends.+push_past_ends.Goals as goal

pub loop-item-preserved : goal.loop-item-preserved
loop-item-preserved g t c =
    let allows = g.K.Knowledge.allows c.args.knowledge.now in
    let index = c.loop-item.item-index in
    let items = c.args.items.now in
    let found = c.loop-item.codes.items in
    let counted : c.loop-item.items_after - 1 + (index + 1) ≡ length items = omega (arith, c.loop-item.invariant.1, c.loop-item-test.true) in
    let more = past_ends allows (items_of (drop (index + 1) items)) in
    elim c.match-item.branch [
      | in-Module+in_ok-push-in-Module w ↦ (
        ap (λ v. v.items ++ more) w.codes-is
            ∙ ap (λ (x : List (List ℕ)). x ++ more) (w.in_ok-push-in-Module.ensures.items
            ∙ ap (λ (x : List ℕ). found ++ x ∷ []) (w.past_end.ensures
            ∙ ap (λ (x : List ℕ). codes_of w.in-Module.module x (c.loop-item.items_after - 1)) w.allowed-allowed.ensures))
            ∙ past-module allows index (c.loop-item.items_after - 1) items found c.item-item.result w.in-Module.module
            c.loop-item-test.true (sym c.item-item.is ∙ w.in-Module.is) counted
            ∙ c.loop-item.invariant.0,
        counted,
      )
      | in-Sub+in_ok-push_past_ends-in-Sub w ↦ (
        let inner : items_of w.deref.result.now ≡ w.in-Sub.sub.inner = ap items_of w.deref.ensures.value ∙ ap (λ (s : SubList). s.inner) w.sub.view_is in
            ap (λ v. v.items ++ more) w.codes-is
            ∙ ap (λ (x : List (List ℕ)). x ++ more) (w.in_ok-push_past_ends-in-Sub.ensures ∙ ap (λ (x : Items). found ++ past_ends allows x) inner)
            ∙ past-sub allows index items found c.item-item.result w.in-Sub.sub c.loop-item-test.true (sym c.item-item.is ∙ w.in-Sub.is)
            ∙ c.loop-item.invariant.0,
        counted,
      )
    ]
  where
    codes_of : Module → List ℕ → ℕ → List ℕ
    codes_of m allowed after = codes_where (λ code. is_in code allowed && is_past_end after (action_of (module_text m).control code))

pub returns : goal.returns
returns g t c =
    let allows = g.K.Knowledge.allows c.args.knowledge.now in
    sym (past-end allows c.loop-item.item-index c.args.items.now c.loop-item.codes.items c.loop-item-test.false)
    ∙ c.loop-item.invariant.0
