use Rattle.std.proofs.Common.{◌∙◌, ℕ, List, [], ◌∷◌, ap, ap₂, codes, refl}
use Rattle.pam_text.proofs.Writing.{writes-is}
use Rattle.pam_render.proofs.JsonLinesProofs.Members.{Members, named, then}
use Rattle.pam_render.specs.json_lines.Line.{joined, members_of}
use Rattle.pam_render.specs.sarif.Rules.{rule_object, text_object}
use Rattle.serde_json.specs.Data.{Data, object, string}
use Rattle.serde_json.specs.Written.{compact_text}
use Rattle.pam_render.proofs.sarif.rules.put_rule.Goals as goal

abbrev full : List ℕ → List ℕ → List ℕ × Data
full meaning linux_pam = named (codes "fullDescription") (text_object (joined (meaning ∷ codes "\nLinux-PAM: " ∷ linux_pam ∷ [])))

pub returns : goal.returns
unfolding rule_object
returns g c =
    writes-is _ _ _ _ _ _ c.put_object.ensures
    (ap (λ (members : Members). compact_text (object (members_of members)))
    (then _ _ _ _ (c.text.ensures ∙ ap (λ (l : List ℕ). named (codes "id") (string l)) c.as_bytes-4.ensures.value)
    (then _ _ _ _ (c.text-2.ensures ∙ ap (λ (l : List ℕ). named (codes "name") (string l)) c.as_bytes-5.ensures.value)
    (then _ _ _ _
    (c.written.ensures ∙ ap (λ (l : List ℕ). named (codes "shortDescription") (text_object (joined (l ∷ [])))) c.as_bytes.ensures.value)
    (then _ _ _ _
    (c.written-2.ensures
    ∙ ap₂ {A = List ℕ} {B = List ℕ} {C = List ℕ × Data} full c.as_bytes.ensures.value c.as_bytes-2.ensures.value)
    (then _ _ [] []
    (c.written-3.ensures
    ∙ ap (λ (l : List ℕ). named (codes "help") (text_object (joined (codes "To mend it: " ∷ l ∷ [])))) c.as_bytes-3.ensures.value) refl))))))
