use Rattle.std.proofs.Common.{◌∙◌, [], ◌∷◌, map, sym, rules, tests}
use Rattle.std.proofs.lemmas.Iterator.Splits.{YieldsList-from_slice_split}
use Rattle.std.proofs.lemmas.Iterator.Consumers.{YieldsList-turn, YieldsList-end}
use Rattle.std.proofs.lemmas.List.{map-append}
use Rattle.pam_words.specs.Decisions.{code_named}
use Rattle.pam_words.proofs.Named.{all_read, is_comma, of_none, of_one_more, one_unnamed}
use Rattle.pam_words.proofs.reading.decisions.codes_listed.Goals as goal

pub loop-name-init : goal.loop-name-init
loop-name-init c = of_none _ c.empty-set.ensures

pub loop-name-preserved : goal.loop-name-preserved
unfolding code_named
loop-name-preserved c =
    rw (map-append (λ name. name.now) c.loop-name.yielded (c.in-Some.name ∷ []))
    (of_one_more c.loop-name.set _ (map (λ name. name.now) c.loop-name.yielded) c.in-Some.name.now c.in-Some-from_name.code
    (sym c.in-Some-from_name.is ∙ c.from_name.ensures) c.loop-name.invariant c.insert.ensures)

pub returns-in_default : goal.returns-in_default
unfolding code_named
returns-in_default c =
    let cut = YieldsList-from_slice_split _ is_comma c.args.names.now (cc) (cc) (cc) (λ x b q k. search (rules, tests)) in
    let turn = YieldsList-turn cut c.loop-name.yielded _ c.loop-name.yielded_by _ _ c.in-Some.name c.in-Some.is c.next.ensures.steps in
    one_unnamed _ _ c.in-Some.name.now turn.0 turn.1 (sym c.in_default.is ∙ c.from_name.ensures)

pub returns : goal.returns
returns c =
    let cut = YieldsList-from_slice_split _ is_comma c.args.names.now (cc) (cc) (cc) (λ x b q k. search (rules, tests)) in
    let end = YieldsList-end cut c.loop-name.yielded _ c.loop-name.yielded_by _ _ c.in-None.is c.next.ensures.steps in
    all_read c.loop-name.set _ _ c.loop-name.invariant end.0
