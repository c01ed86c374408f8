use Rattle.std.proofs.Common.{rules, tests}
use Rattle.std.proofs.lemmas.Iterator.Splits.{YieldsList-from_slice_split}
use Rattle.std.proofs.lemmas.Iterator.Consumers.{YieldsList-turn, YieldsList-end}
use Rattle.pam_policy.proofs.TextProofs.ServiceSteps.{is_comma, kind_read, kinds_begin, kinds_end, no_kind_read}
use Rattle.pam_policy.proofs.text.services.named_kinds.Goals as goal

pub loop-name-init : goal.loop-name-init
loop-name-init c = rw c.empty-kinds.ensures (kinds_begin _)

pub returns-in_err-from_name : goal.returns-in_err-from_name
returns-in_err-from_name c =
    let cut = YieldsList-from_slice_split _ is_comma c.args.word.now (cc) (cc) (cc) (λ x b q k. search (rules, tests)) in
    let turn = YieldsList-turn cut c.loop-name.yielded _ c.loop-name.yielded_by _ _ c.in-Some.name c.in-Some.is c.next.ensures.steps in
    rw c.from_residual.ensures
    (no_kind_read _ c.loop-name.yielded c.in-Some.name c.loop-name.kinds _ turn.0 turn.1 c.loop-name.invariant c.in_err-from_name.ensures)

pub loop-name-preserved : goal.loop-name-preserved
loop-name-preserved c =
    let cut = YieldsList-from_slice_split _ is_comma c.args.word.now (cc) (cc) (cc) (λ x b q k. search (rules, tests)) in
    let turn = YieldsList-turn cut c.loop-name.yielded _ c.loop-name.yielded_by _ _ c.in-Some.name c.in-Some.is c.next.ensures.steps in
    rw c.insert.ensures
    (kind_read _ c.loop-name.yielded c.in-Some.name c.loop-name.kinds _ turn.0 turn.1 c.loop-name.invariant _ c.in_ok-from_name.ensures)

pub returns : goal.returns
returns c =
    let cut = YieldsList-from_slice_split _ is_comma c.args.word.now (cc) (cc) (cc) (λ x b q k. search (rules, tests)) in
    let end = YieldsList-end cut c.loop-name.yielded _ c.loop-name.yielded_by _ _ c.in-None.is c.next.ensures.steps in
    kinds_end _ _ c.loop-name.kinds _ end.1 c.loop-name.invariant
