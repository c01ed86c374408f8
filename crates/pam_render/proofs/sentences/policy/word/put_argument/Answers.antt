use Rattle.pam_codes.proofs.Writing.{writes-is}
use Rattle.pam_policy.specs.names.Words.{argument_view}
use Rattle.pam_render.proofs.SentencesProofs.PolicySentences.{argument-is}
use Rattle.pam_render.proofs.sentences.policy.word.put_argument.Goals as goal

pub returns : goal.returns
returns g c =
    writes-is _ _ _ _ _ _ c.put_phrases.ensures
    (argument-is g.F.Phrases.text (argument_view c.args.argument.now) _ _ _ c.as_slice.ensures.value c.as_slice-2.ensures.value c.as_slice-3.ensures.value)
