use Rattle.std.proofs.Common.{ap, sym}
use Rattle.std.specs.List.{flat_map}
use Rattle.pam_codes.proofs.Writing.{writes-is}
use Rattle.pam_policy.specs.declared.names.word.Misnamed.{Misnamed}
use Rattle.pam_policy.specs.names.Words.{misnamed_view}
use Rattle.pam_render.specs.sentences.Policy.{word_phrases}
use Rattle.pam_render.proofs.sentences.policy.word.put_word.Goals as goal

pub returns-in-FitsNone : goal.returns-in-FitsNone
returns-in-FitsNone g c =
    writes-is _ _ _ _ _ _ c.put_phrases.ensures
    (ap (λ (word : Misnamed). flat_map g.F.Phrases.text (word_phrases (misnamed_view word))) (sym c.in-FitsNone.is))
