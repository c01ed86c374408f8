use Rattle.std.proofs.Common.{◌∙◌}
use Rattle.pam_render.proofs.SentencesProofs.ShownTexts.{first-later, first-met, first-none}
use Rattle.pam_render.proofs.sentences.shown.first_hidden.Goals as goal

pub returns-then-character-ne0 : goal.returns-then-character-ne0
returns-then-character-ne0 c =
    first-met c.loop-after.left.now c.in-Some.after.now _ c.hidden_at-character.result c.in-Some.ensures.cases.0 c.hidden_at-character.ensures
    c.if-character-ne0.true
    ∙ c.loop-after.invariant

pub loop-after-preserved : goal.loop-after-preserved
loop-after-preserved c =
    first-later c.loop-after.left.now c.in-Some.after.now _ c.hidden_at-character.result c.in-Some.ensures.cases.0 c.hidden_at-character.ensures
    c.if-character-ne0.false
    ∙ c.loop-after.invariant

pub returns : goal.returns
returns c = first-none c.loop-after.left.now c.in_default.ensures.cases ∙ c.loop-after.invariant
