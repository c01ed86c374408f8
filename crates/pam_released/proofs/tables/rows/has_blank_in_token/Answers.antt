use Rattle.std.proofs.Common.{◌∙◌, sym}
use Rattle.pam_released.specs.tables.Access.{has_outer_blank}
use Rattle.pam_released.proofs.TablesProofs.Splitting.{last_part, part_fails, part_passes}
use Rattle.pam_released.proofs.tables.rows.has_blank_in_token.Goals as goal

pub returns-then-has_outer_blank : goal.returns-then-has_outer_blank
returns-then-has_outer_blank c =
    sym (part_passes _ has_outer_blank c.loop-text.rest.now c.in-Some.text.now c.in-Some.after.now c.in-Some.ensures.value
    (sym c.has_outer_blank.ensures ∙ c.if-has_outer_blank.true))
    ∙ c.loop-text.invariant

pub loop-text-preserved : goal.loop-text-preserved
loop-text-preserved c =
    part_fails _ has_outer_blank c.loop-text.rest.now c.in-Some.text.now c.in-Some.after.now c.in-Some.ensures.value
    (sym c.has_outer_blank.ensures ∙ c.if-has_outer_blank.false)
    ∙ c.loop-text.invariant

pub returns : goal.returns
returns c = c.has_outer_blank-2.ensures ∙ last_part _ has_outer_blank c.loop-text.rest.now c.in_default.ensures.value ∙ c.loop-text.invariant
