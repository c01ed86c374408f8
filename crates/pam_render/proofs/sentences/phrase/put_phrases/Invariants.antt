-- the phrases so far are written
use Rattle.std.proofs.Common.{take}
use Rattle.std.specs.List.{flat_map}
use Rattle.pam_codes.specs.Out.{TookAll}
use Rattle.pam_render.specs.sentences.PhrasesView.{phrase_view}
use Rattle.pam_render.proofs.sentences.phrase.put_phrases.Given as goal

abbrev pub invariant-loop-phrase : goal.invariant-loop-phrase
invariant-loop-phrase g l =
    TookAll g.W.Write.contents l.initial.out l.out (flat_map (λ phrase. g.F.Phrases.text (phrase_view phrase)) (take l.phrase-index l.phrases))
