use Rattle.std.proofs.Common.{◌∙◌, ap, sym}
use Rattle.pam_released.specs.Lines.{without_end_blanks}
use Rattle.pam_released.proofs.Scanning.{blank_dropped, byte_kept, no_bytes}
use Rattle.pam_released.proofs.lines.without_end_blanks.Goals as goal

pub loop-last-preserved : goal.loop-last-preserved
loop-last-preserved c = c.loop-last.invariant ∙ ap without_end_blanks c.in-Some.ensures.cases.0
    ∙ blank_dropped c.in-Some.front.now c.in-Some.last.now (sym c.is_space_or_tab.ensures ∙ c.if-not-is_space_or_tab.false)

pub returns-then-not-is_space_or_tab : goal.returns-then-not-is_space_or_tab
returns-then-not-is_space_or_tab c = sym (c.loop-last.invariant ∙ ap without_end_blanks c.in-Some.ensures.cases.0
    ∙ byte_kept c.in-Some.front.now c.in-Some.last.now (sym c.is_space_or_tab.ensures ∙ c.if-not-is_space_or_tab.true)
    ∙ sym c.in-Some.ensures.cases.0)

pub returns : goal.returns
returns c = sym (c.loop-last.invariant ∙ no_bytes c.loop-last.text.now c.in_default.ensures.cases)
