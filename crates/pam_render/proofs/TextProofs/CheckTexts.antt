-- The lines of `check`.
use Rattle.std.proofs.Common.{◌≡◌, ◌∙◌, ℕ, List, [], ◌∷◌, ◌++◌, append-nil, append_assoc, codes, refl}
use Rattle.std.specs.List.{concat}
use Rattle.std.specs.Prelude.{decimal}
use Rattle.pam_explain.specs.declared.explanation.Level.{Level}
use Rattle.pam_explain.specs.Explanation.{Explanation}
use Rattle.pam_text.proofs.TextSteps.{unequal}
use Rattle.pam_render.specs.text.Check.{checked_line, counted, levels_text}
use Rattle.pam_render.specs.text.Check.{heading_text, unused_heading}
use Rattle.pam_report.specs.Unused.{UnusedText, level_of_unused, number_of_unused, unused_row}
use Rattle.pam_render.specs.declared.parts.check.Counts.{Counts}
use Rattle.pam_render.specs.sentences.Sentences as say

-- NUMBERS

-- none, or more than one
pub counted-many : (count : ℕ) (name bytes : List ℕ) → (count ≡ 1 → ⊥) → bytes ≡ name
    → concat (decimal count ∷ codes " " ∷ bytes ∷ []) ++ codes "s" ≡ counted count name
counted-many count name bytes h e = rw (e, unequal count 1 h) (simp (append_assoc, append-nil))

pub checked_line-is : (count : ℕ) (name : List ℕ) (stacks : ℕ) (counts : Counts)
    → codes "checked " ++ counted count name ++ codes ", " ++ counted stacks (codes "stack") ++ codes ": " ++ levels_text counts ++ codes "\n"
    ≡ checked_line count name stacks counts
unfolding checked_line
checked_line-is count name stacks counts = refl

-- LINES THAT SAY NOTHING

unused_parts : (line heading : List ℕ) → concat (codes ":" ∷ line ∷ codes ": " ∷ []) ++ heading ≡ codes ":" ++ line ++ codes ": " ++ heading
unused_parts line heading = simp (append_assoc, append-nil)

pub unused_heading-is : (unused : UnusedText) (number : ℕ) (level : Level) (row : Explanation) → number ≡ number_of_unused unused
    → level ≡ level_of_unused unused → row ≡ unused_row
    → concat (codes ":" ∷ decimal number ∷ codes ": " ∷ []) ++ heading_text level row ≡ unused_heading unused
unused_heading-is unused number level row e f h = unused_parts (decimal number) (heading_text level row) ∙ rw (e, f, h) refl

-- HEADINGS

heading_parts : (level number name : List ℕ)
    → concat (level ∷ codes ": " ∷ number ∷ codes " " ∷ name ∷ codes ": " ∷ []) ≡ level ++ codes ": " ++ number ++ codes " " ++ name ++ codes ": "
heading_parts level number name = simp (append_assoc, append-nil)

pub heading-is : (level : Level) (row : Explanation) (of_level number name : List ℕ) → of_level ≡ say.level_name level → number ≡ row.number
    → name ≡ row.name → concat (of_level ∷ codes ": " ∷ number ∷ codes " " ∷ name ∷ codes ": " ∷ []) ≡ heading_text level row
unfolding heading_text
heading-is level row of_level number name e f h = heading_parts of_level number name ∙ rw (e, f, h) refl
