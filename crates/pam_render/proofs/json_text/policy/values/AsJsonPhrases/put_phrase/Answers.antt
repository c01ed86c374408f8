use Rattle.std.proofs.Common.{◌∙◌, ap, sym}
use Rattle.std.specs.Prelude.{decimal}
use Rattle.json.specs.Print.{escape}
use Rattle.pam_codes.proofs.Writing.{writes-is}
use Rattle.pam_render.proofs.JsonLinesProofs.Plain.{decimal-plain, escape-plain}
use Rattle.pam_render.specs.sentences.Phrases.{phrase_chars}
use Rattle.pam_render.specs.sentences.PhrasesView.{phrase_view}
use Rattle.pam_render.proofs.json_text.policy.values.AsJsonPhrases.put_phrase.Goals as goal

pub returns-in-Number : goal.returns-in-Number
returns-in-Number g c =
    let number = c.in-Number.number in
    writes-is _ _ _ _ _ _ c.put_number.ensures
    (sym (escape-plain (decimal number) (decimal-plain number)) ∙ sym (ap (λ phrase. escape (phrase_chars (phrase_view phrase))) c.in-Number.is))
