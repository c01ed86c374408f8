use Rattle.pam_codes.proofs.Writing.{writes-is}
use Rattle.pam_render.proofs.SentencesProofs.PolicySentences.{near-is}
use Rattle.pam_render.proofs.sentences.policy.word.put_near.Goals as goal

pub returns-in-Some : goal.returns-in-Some
returns-in-Some g c =
    writes-is _ _ _ _ _ _ c.put_phrases.ensures
    (near-is g.F.Phrases.text c.args.nearest.now c.in-Some.right _ c.args.else_said.now c.in-Some.is c.as_slice.ensures.value)
