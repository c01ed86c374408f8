use Rattle.std.proofs.Common.{◌∙◌, ap, sym}
use Rattle.pam_released.specs.Lines.{without_start_blanks}
use Rattle.pam_released.proofs.Assembling.{no_length, start_dropped, start_kept, start_none}
use Rattle.pam_released.proofs.assembly.without_start_blanks.Goals as goal

pub returns-then-not-is_space_or_tab : goal.returns-then-not-is_space_or_tab
returns-then-not-is_space_or_tab c = sym (c.loop-first.invariant ∙ ap without_start_blanks c.in-Some.ensures.cases.0
    ∙ start_kept c.in-Some.first.now c.in-Some.after.now (sym c.is_space_or_tab.ensures ∙ c.if-not-is_space_or_tab.true)
    ∙ sym c.in-Some.ensures.cases.0)

pub loop-first-preserved : goal.loop-first-preserved
loop-first-preserved c = c.loop-first.invariant ∙ ap without_start_blanks c.in-Some.ensures.cases.0
    ∙ start_dropped c.in-Some.first.now c.in-Some.after.now (sym c.is_space_or_tab.ensures ∙ c.if-not-is_space_or_tab.false)

pub returns : goal.returns
returns c = sym (c.loop-first.invariant ∙ ap without_start_blanks (no_length _ c.in_default.ensures.cases) ∙ start_none
    ∙ sym (no_length _ c.in_default.ensures.cases))
