-- The line of a finding, part by part.
use Rattle.std.proofs.Common.{◌≡◌, ◌∙◌, ℕ, List, [], ◌∷◌, ◌++◌, append_assoc, append-nil, codes, refl, Option}
use Rattle.std.specs.Prelude.{decimal}
use Rattle.std.specs.List.{concat, flat_map}
use Rattle.pam_codes.specs.SetText.{name_of}
use Rattle.pam_conf.specs.Stack.{Items}
use Rattle.pam_findings.specs.host.Levels.{level_of}
use Rattle.pam_findings.specs.host.Rows.{row_of}
use Rattle.pam_findings.specs.declared.host.problem.Place.{Place}
use Rattle.pam_findings.specs.declared.host.report.Finding.{Finding}
use Rattle.pam_findings.specs.declared.host.way_in.Answered.{Answered}
use Rattle.pam_facts.specs.known.Answers.{name_of_path}
use Rattle.pam_findings.specs.misspelled.Misspelled.{MisspelledText}
use Rattle.pam_findings.specs.declared.misspelled.spot.Spot.{Spot}
use Rattle.pam_report.specs.Decide.{path_at}
use Rattle.pam_render.specs.text.Check.{answer_text, answers_text, finding_line, heading_text, next_answer, place_text, sentence}
use Rattle.pam_render.specs.parts.Check.{Names, spot_of}
use Rattle.pam_render.specs.sentences.Shown.{shown_name}

-- THE ANSWERS OF A WAY IN

-- an answer, written in one line, a name and another line
answer_parts : (number name code : List ℕ)
    → (concat (codes " " ∷ number ∷ codes " " ∷ []) ++ name) ++ concat (codes " " ∷ code ∷ []) ≡ codes " " ++ number ++ codes " " ++ name ++ codes " " ++ code
answer_parts number name code = simp (append_assoc, append-nil)

pub answer_text-is : (items : Items) (a : Answered) (name code : List ℕ) → name ≡ name_of_path (path_at a.number items) → code ≡ name_of a.code
    → (concat (codes " " ∷ decimal a.number ∷ codes " " ∷ []) ++ shown_name name) ++ concat (codes " " ∷ code ∷ []) ≡ answer_text items a
unfolding answer_text
answer_text-is items a name code e f = answer_parts (decimal a.number) (shown_name name) code ∙ rw (e, f) refl

pub answers_text-is : (items : Items) (all : List Answered) (first : Answered) (others : List Answered) → all ≡ first ∷ others
    → (codes ":" ++ answer_text items first) ++ flat_map (next_answer items) others ≡ answers_text items all
unfolding answers_text
answers_text-is items all first others e = rw e refl

-- THE LINE

line_parts : (place heading said : List ℕ) → ((place ++ heading) ++ said) ++ codes "\n" ≡ place ++ heading ++ said ++ codes "\n"
line_parts place heading said = simp (append_assoc)

pub finding_line-is : (names : Names) (place : Place) (finding : Finding) (word : Option MisspelledText) (spot : Option Spot) → spot ≡ spot_of word
    → ((place_text names.paths place spot ++ heading_text (level_of finding.problem) (row_of finding.problem))
    ++ sentence names place finding.met finding.problem word) ++ codes "\n" ≡ finding_line names (place, finding) word
unfolding finding_line
finding_line-is names place finding word spot s =
    line_parts (place_text names.paths place spot) (heading_text (level_of finding.problem) (row_of finding.problem))
    (sentence names place finding.met finding.problem word) ∙ rw s refl
