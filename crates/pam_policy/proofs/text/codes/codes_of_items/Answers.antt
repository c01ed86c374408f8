use Rattle.std.proofs.Common.{[], ◌∷◌, map, rules, tests}
use Rattle.std.proofs.lemmas.Iterator.Splits.{YieldsList-from_slice_split}
use Rattle.std.proofs.lemmas.Iterator.Consumers.{YieldsList-turn, YieldsList-end}
use Rattle.std.proofs.lemmas.List.{map-append}
use Rattle.pam_policy.proofs.TextProofs.CodeSteps.{all_read, is_comma, of_none, one_bad, one_more}
use Rattle.pam_policy.proofs.text.codes.codes_of_items.Goals as goal

pub loop-item-init : goal.loop-item-init
loop-item-init c = of_none _ c.empty-codes.ensures

pub loop-item-preserved : goal.loop-item-preserved
loop-item-preserved c =
    rw (map-append (λ item. item.now) c.loop-item.yielded (c.in-Some.item ∷ []))
    (one_more c.loop-item.codes _ (map (λ item. item.now) c.loop-item.yielded) c.in-Some.item.now c.loop-item.invariant c.in_ok-codes.ensures)

pub returns-in_err-codes : goal.returns-in_err-codes
returns-in_err-codes c =
    let cut = YieldsList-from_slice_split _ is_comma c.args.text.now (cc) (cc) (cc) (λ x b q k. search (rules, tests)) in
    let turn = YieldsList-turn cut c.loop-item.yielded _ c.loop-item.yielded_by _ _ c.in-Some.item c.in-Some.is c.next.ensures.steps in
    rw c.from_residual.ensures (one_bad c.loop-item.codes _ _ c.in-Some.item.now turn.0 turn.1 c.in_err-codes.ensures)

pub returns : goal.returns
returns c =
    let cut = YieldsList-from_slice_split _ is_comma c.args.text.now (cc) (cc) (cc) (λ x b q k. search (rules, tests)) in
    let end = YieldsList-end cut c.loop-item.yielded _ c.loop-item.yielded_by _ _ c.in-None.is c.next.ensures.steps in
    all_read c.loop-item.codes _ _ c.loop-item.invariant end.0
