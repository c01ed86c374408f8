use Rattle.std.proofs.Common.{codes}
use Rattle.std.specs.List.{flat_map}
use Rattle.pam_codes.proofs.Writing.{err-front, front-is, front-longer, writes-is, writes-then}
use Rattle.pam_policy.specs.names.Words.{word_view}
use Rattle.pam_render.specs.sentences.Policy.{near_phrases}
use Rattle.pam_render.proofs.SentencesProofs.PolicySentences.{service-is}
use Rattle.pam_render.proofs.sentences.policy.word.put_service.Goals as goal

pub returns-in_err-put_phrases : goal.returns-in_err-put_phrases
returns-in_err-put_phrases g c =
    err-front _ c.from_residual.ensures.0
    (front-is
    (front-longer (flat_map g.F.Phrases.text (near_phrases (word_view c.args.word.now).nearest (codes "; mend the name, or leave it out")))
    c.in_err-put_phrases.ensures)
    (service-is g.F.Phrases.text (word_view c.args.word.now) _ c.as_slice.ensures.value))

pub returns : goal.returns
returns g c =
    writes-is _ _ _ _ _ _ (writes-then _ _ _ c.in_ok-put_phrases.ensures c.put_near.ensures)
    (service-is g.F.Phrases.text (word_view c.args.word.now) _ c.as_slice.ensures.value)
