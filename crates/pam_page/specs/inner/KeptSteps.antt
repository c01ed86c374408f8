-- For private contracts and proofs alone: the texts of the steps of a path, and the end of each.
use Rattle.std.specs.Prelude.{◌≡◌, ℕ, if◌then◌else◌, nat_lt, ◌+◌, List, [], ◌∷◌, ◌++◌, codes, decimal, length, map, take, Some, slice_get}
use Rattle.std.specs.List.{flat_map}
use Rattle.pam_page.specs.Page.{step_text}
use Rattle.pam_page.specs.declared.texts.KeptStep.{KeptStep}
use Rattle.pam_paths.specs.Classes.{least}
use Rattle.pam_paths.specs.Paths.{StepValue}
use Rattle.pam_page.specs.KeptSteps.{step_of}

-- `.CODE`, the least code of the class of a step
unfoldable pub code_text : StepValue → List ℕ
code_text step = codes "." ++ decimal (least step.class)

-- the length of a dot and a number below 100
abbrev pub number_len : ℕ → ℕ
number_len number = if nat_lt number 10 then 2 else 3

-- the text of a cursor, from the codes with a dot before each. It is `-` if there are none
abbrev pub undotted : List ℕ → List ℕ
undotted [] = codes "-"
undotted (dot ∷ text) = text

abbrev pub codes_of : List KeptStep → List ℕ
codes_of kept = flat_map code_text (map step_of kept)

abbrev pub steps_of : List KeptStep → List ℕ
steps_of kept = flat_map step_text (map step_of kept)

-- the texts of these steps end where the last one says
pub record IsEnd (kept : List KeptStep) (one : KeptStep) : Type 0 where
  pub cursor : one.cursor_end ≡ length (codes_of kept)
  pub steps : one.steps_end ≡ length (steps_of kept)

-- the texts of these steps, each of which says where its own end
pub record AreTexts (kept : List KeptStep) (dotted text : List ℕ) : Type 0 where
  pub cursor : dotted ≡ codes_of kept
  pub steps : text ≡ steps_of kept
  pub ends : (i : ℕ) (one : KeptStep) → slice_get kept i ≡ Some one → IsEnd (take (i + 1) kept) one
