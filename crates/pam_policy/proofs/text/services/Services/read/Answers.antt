use Rattle.std.proofs.Common.{◌∙◌, ◌∷◌, [], Bor, List, ℕ, ap, eqb, map, rules, sym, tests}
use Rattle.std.proofs.lemmas.Iterator.Splits.{YieldsList-from_slice_split}
use Rattle.std.proofs.lemmas.Iterator.Consumers.{YieldsList-turn, YieldsList-end}
use Rattle.std.proofs.lemmas.List.{map-append}
use Rattle.std.proofs.lemmas.Result.{err_from_is_err_and}
use Rattle.pam_policy.specs.text.Services.{services_view}
use Rattle.pam_policy.proofs.TextProofs.FaultSteps.{fails_as}
use Rattle.pam_policy.proofs.TextProofs.ServiceSteps.{as_many, bad_token, is_comma, none_wanted, none_yet, one_token_more, services_read}
use Rattle.pam_policy.proofs.text.services.Services.read.Goals as goal

pub loop-token-init : goal.loop-token-init
loop-token-init c =
    none_yet _ (ap (λ (ns : List (Bor (List ℕ))). map (λ n. n.now) ns) c.new.ensures.items)
    (ap (λ (ns : List (Bor (List ℕ))). map (λ n. n.now) ns) c.new-2.ensures.items)

pub loop-token-preserved : goal.loop-token-preserved
loop-token-preserved c =
    rw (map-append (λ token. token.now) c.loop-token.yielded (c.in-Some.token ∷ []))
    (one_token_more (services_view c.loop-token.services) _ _ c.in-Some.token.now c.loop-token.invariant c.in_ok-add.ensures)

pub returns-in_err-add : goal.returns-in_err-add
returns-in_err-add c =
    let cut = YieldsList-from_slice_split _ is_comma c.args.word.now (cc) (cc) (cc) (λ x b q k. search (rules, tests)) in
    let turn = YieldsList-turn cut c.loop-token.yielded _ c.loop-token.yielded_by _ _ c.in-Some.token c.in-Some.is c.next.ensures.steps in
    let error = err_from_is_err_and c.from_residual.result c.from_residual.ensures.1 in
    rw (error.1, error.2)
    (fails_as _ _ _ c.in_err-add.ensures (λ is. bad_token (services_view c.loop-token.services) c.args.word.now _ c.in-Some.token.now _ turn.0 turn.1 is))

pub returns-then-is_empty : goal.returns-then-is_empty
returns-then-is_empty c =
    let cut = YieldsList-from_slice_split _ is_comma c.args.word.now (cc) (cc) (cc) (λ x b q k. search (rules, tests)) in
    let end = YieldsList-end cut c.loop-token.yielded _ c.loop-token.yielded_by _ _ c.in-None.is c.next.ensures.steps in
    none_wanted (services_view c.loop-token.services) c.args.word.now _ c.loop-token.invariant end.0
    (ap (λ n. eqb n 0) (as_many c.loop-token.services.wanted.items ∙ sym c.loop-token.services.wanted.ok.0)
    ∙ sym c.is_empty.ensures ∙ c.if-is_empty.true)

pub returns : goal.returns
returns c =
    let cut = YieldsList-from_slice_split _ is_comma c.args.word.now (cc) (cc) (cc) (λ x b q k. search (rules, tests)) in
    let end = YieldsList-end cut c.loop-token.yielded _ c.loop-token.yielded_by _ _ c.in-None.is c.next.ensures.steps in
    services_read (services_view c.loop-token.services) c.args.word.now _ c.loop-token.invariant end.0
    (ap (λ n. eqb n 0) (as_many c.loop-token.services.wanted.items ∙ sym c.loop-token.services.wanted.ok.0)
    ∙ sym c.is_empty.ensures ∙ c.if-is_empty.false)
