use Rattle.std.proofs.Common.{◌∙◌, sym, ap}
use Rattle.std.specs.Result.{result_ok}
use Rattle.pam_tables.specs.inner.Access.{permission_for}
use Rattle.pam_tables.proofs.AccessSteps.{passed_entry, no_entry, line_read, users_miss, origins_miss, line_decides}
use Rattle.pam_tables.proofs.access.matching.Goals as goal

pub returns-then-is_passed_over : goal.returns-then-is_passed_over
returns-then-is_passed_over c = λ n entry h.
    ap (permission_for _ _ _ _) (passed_entry _ _ n _ (sym c.is_passed_over.ensures ∙ c.if-is_passed_over.true) entry h)

pub returns-in_err-fields : goal.returns-in_err-fields
returns-in_err-fields c = λ n entry h.
    absurd (no_entry _ _ n _ (sym c.is_passed_over.ensures ∙ c.if-is_passed_over.false) c.in_err-fields.ensures entry h)

pub returns-then-not-list_matches : goal.returns-then-not-list_matches
returns-then-not-list_matches c = λ n entry h.
    let line = line_read _ _ n _ (sym c.is_passed_over.ensures ∙ c.if-is_passed_over.false) _ _ _ c.in_ok-fields.ensures entry h in
    users_miss _ _ _ _ _ _ _ _ entry line (λ us k. sym c.if-not-list_matches.true ∙ c.list_matches.ensures us k)

pub returns-then-not-list_matches-2 : goal.returns-then-not-list_matches-2
returns-then-not-list_matches-2 c = λ n entry h.
    let line = line_read _ _ n _ (sym c.is_passed_over.ensures ∙ c.if-is_passed_over.false) _ _ _ c.in_ok-fields.ensures entry h in
    origins_miss _ _ _ _ _ _ _ _ entry line (λ us k. sym c.if-not-list_matches.false ∙ c.list_matches.ensures us k)
    (λ os k. sym c.if-not-list_matches-2.true ∙ c.list_matches-2.ensures os k)

pub returns : goal.returns
returns c = λ n entry h.
    let line = line_read _ _ n _ (sym c.is_passed_over.ensures ∙ c.if-is_passed_over.false) _ _ _ c.in_ok-fields.ensures entry h in
    c.ok.ensures.value ∙ ap result_ok (c.of_field.ensures ∙ line.whole.permission)
    ∙ line_decides _ _ _ _ _ _ _ _ entry line (λ us k. sym c.if-not-list_matches.false ∙ c.list_matches.ensures us k)
    (λ os k. sym c.if-not-list_matches-2.false ∙ c.list_matches-2.ensures os k)
