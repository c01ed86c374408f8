-- The lines of `policy`, part by part.
use Rattle.std.proofs.Common.{◌≡◌, ◌∙◌, ℕ, List, [], ◌∷◌, ◌++◌, ap, codes, map, refl, sym}
use Rattle.std.proofs.lemmas.Grind.{flat_map-append}
use Rattle.std.specs.List.{flat_map}
use Rattle.pam_text.proofs.TextSteps.{unequal}
use Rattle.pam_render.specs.parts.Policy.{Host, ToldFinding, kind_of_place, service_of_place}
use Rattle.pam_render.specs.sentences.Phrases.{Phrase, Name, Number, Said, phrase_text}
use Rattle.pam_render.specs.sentences.Policy.{finding_phrases}
use Rattle.pam_render.specs.text.Policy.{found_line, heading_phrases, listed, places_phrases, two_listed}

-- three parts of a line
three-parts : (one two three : List Phrase)
    → (flat_map phrase_text one ++ flat_map phrase_text two) ++ flat_map phrase_text three ≡ flat_map phrase_text ((one ++ two) ++ three)
three-parts one two three =
    ap (λ (l : List ℕ). l ++ flat_map phrase_text three) (sym (flat_map-append phrase_text one two)) ∙ sym (flat_map-append phrase_text (one ++ two) three)

-- the kind and the services of places
pub places-are : (host : Host) (all : List ℕ) (first : ℕ) (more : List ℕ) (kind : List ℕ) → all ≡ first ∷ more → kind ≡ kind_of_place host first
    → (flat_map phrase_text (Said (codes " (") ∷ Said kind ∷ Said (codes "; ") ∷ [])
    ++ flat_map phrase_text (listed (service_of_place host first) (map (service_of_place host) more)))
    ++ flat_map phrase_text (Said (codes ")") ∷ []) ≡ flat_map phrase_text (places_phrases host all)
places-are host all first more kind e f =
    ap (λ (k : List ℕ). (flat_map phrase_text (Said (codes " (") ∷ Said k ∷ Said (codes "; ") ∷ [])
    ++ flat_map phrase_text (listed (service_of_place host first) (map (service_of_place host) more))) ++ flat_map phrase_text (Said (codes ")") ∷ [])) f
    ∙ three-parts (Said (codes " (") ∷ Said (kind_of_place host first) ∷ Said (codes "; ") ∷ [])
    (listed (service_of_place host first) (map (service_of_place host) more)) (Said (codes ")") ∷ [])
    ∙ ap (λ (places : List ℕ). flat_map phrase_text (places_phrases host places)) (sym e)

-- two services, and others
pub two-are : (first second one two : List ℕ) (others : ℕ) → one ≡ first → two ≡ second → (others ≡ 0 → ⊥)
    → flat_map phrase_text
    (Name one ∷ Said (codes ", ") ∷ Name two ∷ Said (codes " and ") ∷ Number others ∷ Said (codes " more") ∷ [])
    ≡ flat_map phrase_text (two_listed first second others)
two-are first second one two others e f h = rw (e, f, unequal others 0 h) refl

-- the line of a finding
pub found-is : (host : Host) (told : ToldFinding) (places : List ℕ) → places ≡ told.places
    → ((flat_map phrase_text (heading_phrases told) ++ flat_map phrase_text (finding_phrases host told.rule.text told.finding))
    ++ flat_map phrase_text (places_phrases host places)) ++ codes "\n" ≡ found_line host told
found-is host told places e =
    ap (λ (p : List ℕ). ((flat_map phrase_text (heading_phrases told) ++ flat_map phrase_text (finding_phrases host told.rule.text told.finding))
    ++ flat_map phrase_text (places_phrases host p)) ++ codes "\n") e
