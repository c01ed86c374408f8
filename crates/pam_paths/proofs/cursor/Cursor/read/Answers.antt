use Rattle.std.proofs.Common.{◌≡◌, ◌≢◌, ℕ, codes, length, refl, sym, ◌∙◌, rules, tests, Option, Some, None, Err}
use Rattle.std.proofs.lemmas.List.{length-map}
use Rattle.std.proofs.lemmas.Result.{err_from_is_err_and}
use Rattle.std.proofs.lemmas.Iterator.Splits.{YieldsList-from_slice_split}
use Rattle.std.proofs.lemmas.Iterator.Consumers.{YieldsList-turn, YieldsList-end}
use Rattle.std.proofs.lemmas.Bool.{eqb-true}
use Rattle.std.specs.Option.{ok_or}
use Rattle.pam_paths.specs.declared.cursor.CursorError.{CursorError}
use Rattle.pam_paths.specs.declared.cursor.CursorError.TheVariants.{Syntax}
use Rattle.pam_paths.proofs.CursorTexts.{is_dot, no_cursor-full, no_cursor-part, text_of_parts}
use Rattle.pam_paths.proofs.cursor.Cursor.read.Goals as goal

-- the error of a part that is not the number of a code
error_is : (found : Option ℕ) (error : CursorError) → Err error ≡ ok_or found Syntax → found ≡ None → error ≡ Syntax
error_is (Some code) error same none = cc
error_is None error same none = cc

pub returns-in_err-code-clause-err : goal.returns-in_err-code-clause-err
returns-in_err-code-clause-err c =
    let text = c.args.text.now in
    let other : text ≢ codes "-" = search rules in
    let cut = YieldsList-from_slice_split _ is_dot text (cc) (cc) (cc) (λ x b q k. search (rules, tests)) in
    let turn = YieldsList-turn cut c.loop-digits.yielded _ c.loop-digits.yielded_by _ _ c.in-Some.digits c.in-Some.is c.next.ensures.steps in
    let none = rw c.in_err-code.ensures.ok_part at c.code_of.ensures in
    let error = err_from_is_err_and c.from_residual.result c.from_residual.ensures.1 in
    let is = error_is c.code_of.result _ c.in_err-code.ensures.value c.in_err-code.ensures.ok_part in
    rw (error.1, error.2) (is, no_cursor-part text (length c.loop-digits.yielded) c.in-Some.digits.now other turn.0 turn.1 none)

pub returns-then-is_full-clause-err : goal.returns-then-is_full-clause-err
returns-then-is_full-clause-err c =
    let text = c.args.text.now in
    let other : text ≢ codes "-" = search rules in
    let cut = YieldsList-from_slice_split _ is_dot text (cc) (cc) (cc) (λ x b q k. search (rules, tests)) in
    let turn = YieldsList-turn cut c.loop-digits.yielded _ c.loop-digits.yielded_by _ _ c.in-Some.digits c.in-Some.is c.next.ensures.steps in
    let full = eqb-true _ _ (sym c.if-is_full.ensures.value) in
    let count = length-map c.loop-digits.yielded (λ part. part.now) in
    (refl, no_cursor-full text c.loop-digits.codes.items _ (length c.loop-digits.yielded) other turn.0 c.loop-digits.invariant.numbers count full)

pub returns-clause-ok : goal.returns-clause-ok
returns-clause-ok c =
    let text = c.args.text.now in
    let cut = YieldsList-from_slice_split _ is_dot text (cc) (cc) (cc) (λ x b q k. search (rules, tests)) in
    let end = YieldsList-end cut c.loop-digits.yielded _ c.loop-digits.yielded_by _ _ c.in-None.is c.next.ensures.steps in
    text_of_parts c.loop-digits.codes.items text (c.loop-digits.invariant.numbers ∙ end.0)
