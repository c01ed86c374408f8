-- The sentence of a finding of a policy, as one string.
use Rattle.std.proofs.Common.{◌≡◌, ◌∙◌, List, ℕ, [], ◌∷◌, ◌++◌, ap, codes, refl, sym}
use Rattle.std.proofs.lemmas.Grind.{flat_map-append}
use Rattle.std.specs.List.{flat_map}
use Rattle.json.specs.Print.{escape, escape_byte, quoted}
use Rattle.pam_render.specs.sentences.Phrases.{Phrase, phrase_chars}

phrases-escaped : (phrases : List Phrase) → flat_map (λ phrase. escape (phrase_chars phrase)) phrases ≡ escape (flat_map phrase_chars phrases)
phrases-escaped [] = refl
phrases-escaped (phrase ∷ phrases) =
    ap (λ (l : List ℕ). escape (phrase_chars phrase) ++ l) (phrases-escaped phrases)
    ∙ sym (flat_map-append escape_byte (phrase_chars phrase) (flat_map phrase_chars phrases))

pub string-is : (phrases : List Phrase)
    → codes "\"" ++ (flat_map (λ phrase. escape (phrase_chars phrase)) phrases ++ codes "\"") ≡ quoted (flat_map phrase_chars phrases)
string-is phrases = ap (λ (l : List ℕ). codes "\"" ++ (l ++ codes "\"")) (phrases-escaped phrases)
