use Rattle.std.proofs.Common.{◌∙◌, rules, sym, tests}
use Rattle.std.proofs.lemmas.Iterator.Splits.{YieldsList-from_slice_split}
use Rattle.std.proofs.lemmas.Iterator.Consumers.{YieldsList-turn, YieldsList-end}
use Rattle.pam_text.specs.Blanks.{is_text_blank}
use Rattle.pam_findings.proofs.AcceptedProofs.WordSteps.{at_comment, at_empty, at_end, at_start, at_word}
use Rattle.pam_findings.proofs.accepted.words.words.Goals as goal

pub loop-part-init : goal.loop-part-init
loop-part-init c = at_start c.args.line.now _ c.new-words.ensures.items

pub returns-then-starts_with : goal.returns-then-starts_with
returns-then-starts_with c =
    let cut = YieldsList-from_slice_split _ is_text_blank c.args.line.now (cc) (cc) (cc) (λ x b q k. search (rules, tests)) in
    let turn = YieldsList-turn cut c.loop-part.yielded _ c.loop-part.yielded_by _ _ c.in-Some.part c.in-Some.is c.next.ensures.steps in
    at_comment _ c.loop-part.yielded c.loop-part.words.items c.in-Some.part _ turn.0 turn.1 c.loop-part.invariant
    (sym c.starts_with.ensures.value ∙ c.if-starts_with.true)

pub loop-part-preserved-then-is_empty : goal.loop-part-preserved-then-is_empty
loop-part-preserved-then-is_empty c =
    let cut = YieldsList-from_slice_split _ is_text_blank c.args.line.now (cc) (cc) (cc) (λ x b q k. search (rules, tests)) in
    let turn = YieldsList-turn cut c.loop-part.yielded _ c.loop-part.yielded_by _ _ c.in-Some.part c.in-Some.is c.next.ensures.steps in
    at_empty _ c.loop-part.yielded c.loop-part.words.items c.in-Some.part _ turn.0 turn.1 c.loop-part.invariant
    (sym c.is_empty.ensures ∙ c.if-is_empty.true)

pub loop-part-preserved : goal.loop-part-preserved
loop-part-preserved c =
    let cut = YieldsList-from_slice_split _ is_text_blank c.args.line.now (cc) (cc) (cc) (λ x b q k. search (rules, tests)) in
    let turn = YieldsList-turn cut c.loop-part.yielded _ c.loop-part.yielded_by _ _ c.in-Some.part c.in-Some.is c.next.ensures.steps in
    at_word _ c.loop-part.yielded c.loop-part.words.items c.in-Some.part _ turn.0 turn.1 c.loop-part.invariant _
    (sym c.starts_with.ensures.value ∙ c.if-starts_with.false) (sym c.is_empty.ensures ∙ c.if-is_empty.false) c.in_ok-push.ensures.items

pub returns : goal.returns
returns c =
    let cut = YieldsList-from_slice_split _ is_text_blank c.args.line.now (cc) (cc) (cc) (λ x b q k. search (rules, tests)) in
    let end = YieldsList-end cut c.loop-part.yielded _ c.loop-part.yielded_by _ _ c.in-None.is c.next.ensures.steps in
    at_end _ c.loop-part.yielded _ _ end.1 c.loop-part.invariant
