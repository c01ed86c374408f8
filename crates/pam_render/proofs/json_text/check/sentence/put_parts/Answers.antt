use Rattle.std.proofs.Common.{◌≡◌, ◌∙◌, ℕ, List, [], ◌∷◌, Option, Some, ap, codes, sym}
use Rattle.std.specs.Option.{option_map}
use Rattle.pam_codes.proofs.Writing.{writes-is}
use Rattle.pam_render.specs.json_lines.Line.{joined}
use Rattle.pam_findings.specs.misspelled.Misspelled.{MisspelledText}
use Rattle.pam_findings.specs.misspelled.MisspelledView.{misspelled_view}
use Rattle.pam_render.specs.sentences.Faults.{Naming}
use Rattle.pam_render.specs.sentences.NamingView.{naming_view}
use Rattle.pam_render.specs.sentences.Shown.{hidden_text}
use Rattle.serde_json.specs.Written.{compact_text}
use Rattle.pam_render.specs.json_text.Sentences.{mending_parts, named_parts}
use Rattle.pam_render.proofs.json_text.check.sentence.put_parts.Goals as goal

-- the parts, by equal texts
named-is : (naming : Naming) (m : MisspelledText) (of before word after hidden right near : List ℕ) → of ≡ m.of → before ≡ naming.before → word ≡ m.word
    → after ≡ naming.after → hidden ≡ hidden_text m.word → near ≡ right → m.nearest ≡ Some right
    → compact_text (joined (of ∷ before ∷ codes "\"" ∷ word ∷ codes "\"" ∷ after ∷ hidden ∷ codes "; did you mean \"" ∷ near ∷ codes "\"?" ∷ []))
    ≡ compact_text (joined (named_parts m naming))
named-is naming m of before word after hidden right near o b w a h r n =
    rw (o, b, w, a, h, r)
    (ap (λ (nearest : Option (List ℕ)). compact_text (joined (m.of ∷ naming.before ∷ codes "\"" ∷ m.word ∷ codes "\"" ∷ naming.after
    ∷ hidden_text m.word ∷ mending_parts nearest naming.mending))) (sym n))

pub returns-in-Some : goal.returns-in-Some
returns-in-Some g c =
    writes-is _ _ _ _ _ _ c.put_joined.ensures
    (named-is (naming_view c.args.naming) (misspelled_view c.args.misspelled.now) _ _ _ _ _ c.in-Some.right.items _ c.as_slice.ensures.value
    c.as_bytes.ensures.value c.as_slice-in-Some.ensures.value c.as_bytes-in-Some.ensures.value
    (c.as_bytes-in-Some-2.ensures.value ∙ c.hidden_text.ensures ∙ ap hidden_text c.deref.ensures.value) c.as_slice-in-Some-2.ensures.value
    (ap (option_map (λ word. word.items)) c.in-Some.is))
