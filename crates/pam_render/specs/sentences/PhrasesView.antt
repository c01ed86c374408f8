-- A phrase, as text.
use Rattle.pam_render.specs.sentences.Phrases as spec
use Rattle.pam_render.specs.declared.sentences.phrase.Phrase.{Phrase}
use Rattle.pam_render.specs.declared.sentences.phrase.Phrase.TheVariants as phrases

abbrev pub phrase_view : Phrase → spec.Phrase
phrase_view (phrases.Said words) = spec.Said words.now
phrase_view (phrases.Name name) = spec.Name name.now
phrase_view (phrases.Number number) = spec.Number number
