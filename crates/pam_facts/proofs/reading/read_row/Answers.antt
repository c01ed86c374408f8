use Rattle.std.proofs.Common.{◌∙◌, sym}
use Rattle.pam_facts.proofs.RowSteps.{bad_name, comment, named, no_words}
use Rattle.pam_facts.proofs.reading.read_row.Goals as goal

pub returns-then-starts_with : goal.returns-then-starts_with
returns-then-starts_with c = comment c.args.line.now (sym c.starts_with.ensures.value ∙ c.if-starts_with.true)

pub returns-in_default : goal.returns-in_default
returns-in_default c = no_words c.args.line.now (sym c.starts_with.ensures.value ∙ c.if-starts_with.false) c.in_default.ensures

pub returns-then-not-is_name : goal.returns-then-not-is_name
returns-then-not-is_name c =
    bad_name c.args.line.now (sym c.starts_with.ensures.value ∙ c.if-starts_with.false) _ _ c.in-Some.ensures (sym c.is_name.ensures ∙ c.if-not-is_name.true)

pub returns-in-Some-row_after : goal.returns-in-Some-row_after
returns-in-Some-row_after c =
    named c.args.line.now (sym c.starts_with.ensures.value ∙ c.if-starts_with.false) _ _ c.in-Some.ensures (sym c.is_name.ensures ∙ c.if-not-is_name.false)
    _ c.in-Some-row_after.ensures

pub returns-in-None : goal.returns-in-None
returns-in-None c =
    named c.args.line.now (sym c.starts_with.ensures.value ∙ c.if-starts_with.false) _ _ c.in-Some.ensures (sym c.is_name.ensures ∙ c.if-not-is_name.false)
    _ c.in-None.ensures
