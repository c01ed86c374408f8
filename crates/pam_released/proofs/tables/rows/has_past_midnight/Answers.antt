use Rattle.std.proofs.Common.{◌∙◌, sym}
use Rattle.pam_released.specs.tables.Times.{is_past_midnight}
use Rattle.pam_released.proofs.TablesProofs.Splitting.{last_part, part_fails, part_passes}
use Rattle.pam_released.proofs.tables.rows.has_past_midnight.Goals as goal

pub returns-then-is_past_midnight : goal.returns-then-is_past_midnight
returns-then-is_past_midnight c =
    sym (part_passes _ is_past_midnight c.loop-token.rest.now c.in-Some.token.now c.in-Some.after.now c.in-Some.ensures.value
    (sym c.is_past_midnight.ensures ∙ c.if-is_past_midnight.true))
    ∙ c.loop-token.invariant

pub loop-token-preserved : goal.loop-token-preserved
loop-token-preserved c =
    part_fails _ is_past_midnight c.loop-token.rest.now c.in-Some.token.now c.in-Some.after.now c.in-Some.ensures.value
    (sym c.is_past_midnight.ensures ∙ c.if-is_past_midnight.false)
    ∙ c.loop-token.invariant

pub returns : goal.returns
returns c = c.is_past_midnight-2.ensures ∙ last_part _ is_past_midnight c.loop-token.rest.now c.in_default.ensures.value ∙ c.loop-token.invariant
