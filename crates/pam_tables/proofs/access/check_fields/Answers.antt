use Rattle.std.proofs.Common.{◌∙◌, sym}
use Rattle.std.proofs.lemmas.Result.{err_from_is_err_and}
use Rattle.pam_tables.proofs.AccessSteps.{no_users, no_origins, bad_permission, bad_users, good_users}
use Rattle.pam_tables.proofs.access.check_fields.Goals as goal

pub returns-then-not-has_token : goal.returns-then-not-has_token
returns-then-not-has_token c = λ n. no_users _ n _ _ _ (sym c.has_token.ensures ∙ c.if-not-has_token.true)

pub returns-then-not-has_token-2 : goal.returns-then-not-has_token-2
returns-then-not-has_token-2 c = λ n.
    no_origins _ n _ _ _ (sym c.has_token.ensures ∙ c.if-not-has_token.false) (sym c.has_token-2.ensures ∙ c.if-not-has_token-2.true)

pub returns-in_err-of_field : goal.returns-in_err-of_field
returns-in_err-of_field c = λ n.
    let p = err_from_is_err_and c.from_residual.result c.from_residual.ensures.1 in
    rw (p.1, p.2) (bad_permission _ n _ _ _ (sym c.has_token.ensures ∙ c.if-not-has_token.false)
    (sym c.has_token-2.ensures ∙ c.if-not-has_token-2.false) _ (c.in_err-of_field.ensures))

pub returns-in_err-check_users : goal.returns-in_err-check_users
returns-in_err-check_users c = λ n.
    let p = err_from_is_err_and c.from_residual-in_err-check_users.result c.from_residual-in_err-check_users.ensures.1 in
    rw (p.1, p.2) (bad_users _ n _ _ _ (sym c.has_token.ensures ∙ c.if-not-has_token.false)
    (sym c.has_token-2.ensures ∙ c.if-not-has_token-2.false) _ (c.in_ok-of_field.ensures) _
    (sym c.in_err-check_users.was ∙ c.check_users.ensures))

pub returns : goal.returns
returns c = λ n.
    c.check_origins.ensures ∙ good_users _ n _ _ _ (sym c.has_token.ensures ∙ c.if-not-has_token.false)
    (sym c.has_token-2.ensures ∙ c.if-not-has_token-2.false) _ (c.in_ok-of_field.ensures)
    (sym c.in_ok-check_users.was ∙ c.check_users.ensures)
