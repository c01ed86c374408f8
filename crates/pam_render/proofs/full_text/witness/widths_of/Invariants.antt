-- the widths of the rows so far
use Rattle.std.proofs.Common.{map, take}
use Rattle.pam_render.specs.full_text.Witness.{row_of}
use Rattle.pam_render.specs.full_text.inner.Witness.{AreWidths}
use Rattle.pam_render.specs.parts.CheckNames.{names_view}
use Rattle.pam_render.proofs.full_text.witness.widths_of.Given as goal

abbrev pub invariant-loop-answer : goal.invariant-loop-answer
invariant-loop-answer l =
    AreWidths (map (row_of (names_view l.names).paths l.stack) (take l.answer-index l.answers)) l.widths
