use Rattle.std.proofs.Common.{sym, ◌∙◌}
use Rattle.std.proofs.lemmas.Bool.{eqb-true, eqb-false}
use Rattle.pam_tables.proofs.GroupSteps.{no_colon, one_colon, two_colons, empty_name, four_colons, four_fields}
use Rattle.pam_tables.proofs.groups.group_line.Goals as goal

pub returns-in_err-name : goal.returns-in_err-name
returns-in_err-name c = rw c.from_residual.ensures (no_colon c.args.line.now c.in_err-name.ensures.value)

pub returns-in_err-rest : goal.returns-in_err-rest
returns-in_err-rest c = rw c.from_residual-in_err-rest.ensures (one_colon c.args.line.now _ _ c.in_ok-name.ensures.value c.in_err-rest.ensures.value)

pub returns-in_err-members : goal.returns-in_err-members
returns-in_err-members c =
    rw c.from_residual-in_err-members.ensures (two_colons c.args.line.now _ _ _ _ c.in_ok-name.ensures.value c.in_ok-rest.ensures.value
    c.in_err-members.ensures.value)

pub returns-then-is_empty : goal.returns-then-is_empty
returns-then-is_empty c =
    empty_name c.args.line.now _ _ _ _ _ _ c.in_ok-name.ensures.value c.in_ok-rest.ensures.value c.in_ok-members.ensures.value
    (eqb-true _ _ (sym c.is_empty.ensures ∙ c.if-is_empty.true))

pub returns-in-Some : goal.returns-in-Some
returns-in-Some c =
    four_colons c.args.line.now _ _ _ _ _ _ _ _ c.in_ok-name.ensures.value c.in_ok-rest.ensures.value c.in_ok-members.ensures.value c.in-Some.ensures.value

pub returns-in-None : goal.returns-in-None
returns-in-None c =
    four_fields c.args.line.now _ _ _ _ _ _ c.in_ok-name.ensures.value c.in_ok-rest.ensures.value c.in_ok-members.ensures.value c.in-None.ensures.value
    (eqb-false _ _ (sym c.is_empty.ensures ∙ c.if-is_empty.false))
