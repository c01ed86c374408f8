use Rattle.std.proofs.Common.{◌∙◌, sym}
use Rattle.std.proofs.lemmas.Result.{err_from_is_err_and}
use Rattle.pam_tables.proofs.ReturnSteps.{comment, no_words, bad_module, codes_said}
use Rattle.pam_tables.proofs.returns.read_line.Goals as goal

pub returns-then-starts_with-clause-value : goal.returns-then-starts_with-clause-value
returns-then-starts_with-clause-value c = comment c.args.line.now (sym c.starts_with.ensures.value ∙ c.if-starts_with.true)

pub returns-in_default-clause-value : goal.returns-in_default-clause-value
returns-in_default-clause-value c = no_words c.args.line.now (sym c.starts_with.ensures.value ∙ c.if-starts_with.false) (rw c.requires at c.in_default.ensures)

pub returns-then-contains-clause-value : goal.returns-then-contains-clause-value
returns-then-contains-clause-value c =
    bad_module c.args.line.now (sym c.starts_with.ensures.value ∙ c.if-starts_with.false) _ _ (rw c.requires at c.in-Some.ensures)
    (sym c.contains.ensures.value ∙ c.if-contains.true)

pub returns-in_err-codes-clause-value : goal.returns-in_err-codes-clause-value
returns-in_err-codes-clause-value c =
    let p = err_from_is_err_and c.from_residual.result c.from_residual.ensures.1 in
    rw (p.1, p.2) (codes_said c.args.line.now (sym c.starts_with.ensures.value ∙ c.if-starts_with.false) _ _ (rw c.requires at c.in-Some.ensures)
    (sym c.contains.ensures.value ∙ c.if-contains.false) _ (sym (rw c.requires at c.in_err-codes.ensures.value)))

pub returns-clause-value : goal.returns-clause-value
returns-clause-value c =
    codes_said c.args.line.now (sym c.starts_with.ensures.value ∙ c.if-starts_with.false) _ _ (rw c.requires at c.in-Some.ensures)
    (sym c.contains.ensures.value ∙ c.if-contains.false) _ (sym (rw c.requires at c.in_ok-codes.ensures.value))
