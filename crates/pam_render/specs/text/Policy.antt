-- The text of `policy`: a line for each finding, and a last line with their numbers.
use Rattle.std.specs.Prelude.{ℕ, ◌==◌, List, [], ◌∷◌, ◌++◌, codes, if◌then◌else◌, length, map}
use Rattle.std.specs.List.{flat_map}
use Rattle.pam_report.specs.PolicyLevels.{policy_level, policy_row}
use Rattle.pam_report.specs.Reply.{PolicyValue}
use Rattle.pam_render.specs.parts.Policy.{Found, Host, Judged, Last, Line, ToldFinding, kind_of_place, policy_lines, service_of_place}
use Rattle.pam_render.specs.sentences.Phrases.{Phrase, Name, Number, Said, phrase_text}
use Rattle.pam_render.specs.sentences.Policy.{finding_phrases}
use Rattle.pam_render.specs.sentences.Sentences.{level_name}
use Rattle.pam_render.specs.text.Check.{checked_line}

-- `POLICY:LINE: LEVEL: NUMBER NAME: `
abbrev pub heading_phrases : ToldFinding → List Phrase
heading_phrases told =
    Name told.rule.policy ∷ Said (codes ":") ∷ Number told.rule.line ∷ Said (codes ": ") ∷ Said (level_name (policy_level told.finding)) ∷ Said (codes ": ")
    ∷ Said (policy_row told.finding).number ∷ Said (codes " ") ∷ Said (policy_row told.finding).name ∷ Said (codes ": ") ∷ []

-- `FIRST and SECOND`, or `FIRST, SECOND and N more`
abbrev pub two_listed : List ℕ → List ℕ → ℕ → List Phrase
two_listed first second others =
    if others == 0 then Name first ∷ Said (codes " and ") ∷ Name second ∷ []
    else Name first ∷ Said (codes ", ") ∷ Name second ∷ Said (codes " and ") ∷ Number others ∷ Said (codes " more") ∷ []

-- the first service and the others
abbrev pub listed : List ℕ → List (List ℕ) → List Phrase
listed first [] = Name first ∷ []
listed first (second ∷ others) = two_listed first second (length others)

-- ` (KIND; SERVICES)` of the places of a class, which are of one kind; nothing for none
abbrev pub places_phrases : Host → List ℕ → List Phrase
places_phrases host [] = []
places_phrases host (first ∷ more) =
    (Said (codes " (") ∷ Said (kind_of_place host first) ∷ Said (codes "; ") ∷ []) ++ listed (service_of_place host first) (map (service_of_place host) more)
    ++ (Said (codes ")") ∷ [])

-- `POLICY:LINE: LEVEL: NUMBER NAME: SENTENCE (KIND; SERVICES)`
abbrev pub found_line : Host → ToldFinding → List ℕ
found_line host told =
    flat_map phrase_text (heading_phrases told) ++ flat_map phrase_text (finding_phrases host told.rule.text told.finding)
    ++ flat_map phrase_text (places_phrases host told.places) ++ codes "\n"

-- ONE LINE: the text has none for a rule
abbrev pub line_text : Line → List ℕ
line_text (Found host told) = found_line host told
line_text (Judged rule) = []
line_text (Last rules stacks counts) = checked_line rules (codes "rule") stacks counts

-- THE TEXT of `policy`: which lines come, in which order, says `policy_lines`
abbrev pub policy_text : PolicyValue → List ℕ
policy_text value = policy_lines line_text value
