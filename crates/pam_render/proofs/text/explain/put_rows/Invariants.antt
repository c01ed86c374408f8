-- the rows are written, but for those that are left
use Rattle.pam_explain.specs.Explanations.{explanations}
use Rattle.pam_render.proofs.TextProofs.ListTexts.{Partly}
use Rattle.pam_render.specs.text.Explain.{row_text}
use Rattle.pam_render.proofs.text.explain.put_rows.Given as goal

abbrev pub invariant-loop-explanation : goal.invariant-loop-explanation
invariant-loop-explanation g l = Partly g.W.Write.contents row_text l.initial.out l.out explanations l.explanation-iterator
