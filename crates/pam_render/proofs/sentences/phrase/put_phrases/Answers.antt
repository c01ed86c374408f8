use Rattle.std.proofs.Common.{◌∙◌, ◌+◌, drop, sym}
use Rattle.std.specs.List.{flat_map}
use Rattle.pam_codes.proofs.Writing.{all-is, err-front, front-is, front-longer, front-then}
use Rattle.pam_text.proofs.FlatTexts.{flat_map-at, flat_map-seen}
use Rattle.pam_render.specs.declared.sentences.phrase.Phrase.{Phrase}
use Rattle.pam_render.specs.sentences.PhrasesView.{phrase_view}
use Rattle.pam_render.proofs.SentencesProofs.PolicySentences.{seen-all}
use Rattle.pam_render.proofs.sentences.phrase.put_phrases.Goals as goal

pub returns-in_err-put_phrase : goal.returns-in_err-put_phrase
returns-in_err-put_phrase g c =
    let phrases = c.args.phrases.now in
    let text = λ (phrase : Phrase). g.F.Phrases.text (phrase_view phrase) in
    let index = c.loop-phrase.phrase-index in
    err-front _ c.from_residual.ensures.0
    (front-is
    (front-longer (flat_map text (drop (index + 1) phrases)) (front-then c.loop-phrase.invariant c.in_err-put_phrase.ensures))
    (flat_map-at text phrases index _ c.loop-phrase-test.true ∙ sym (flat_map-seen g.F.Phrases.text phrase_view phrases)))

pub returns : goal.returns
returns g c =
    all-is c.loop-phrase.invariant
    (seen-all g.F.Phrases.text phrase_view c.args.phrases.now c.loop-phrase.phrase-index c.loop-phrase-test.false)
