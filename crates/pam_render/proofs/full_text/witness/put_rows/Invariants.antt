-- the rows so far are written
use Rattle.std.proofs.Common.{take}
use Rattle.std.specs.List.{flat_map}
use Rattle.pam_text.specs.Out.{TookAll}
use Rattle.pam_render.specs.full_text.Witness.{row_of}
use Rattle.pam_render.specs.full_text.inner.Witness.{row_within}
use Rattle.pam_render.specs.parts.CheckNames.{names_view}
use Rattle.pam_render.proofs.full_text.witness.put_rows.Given as goal

abbrev pub invariant-loop-answer : goal.invariant-loop-answer
invariant-loop-answer g l =
    TookAll g.W.Write.contents l.initial.out l.out
    (flat_map (λ answer. row_within l.fn.widths (row_of (names_view l.names).paths l.stack answer)) (take l.answer-index l.answers))
