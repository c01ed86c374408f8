-- For private contracts and proofs alone: the texts of steps that have every code, for the modules 1, 2 and so on.
use Rattle.std.specs.Prelude.{◌≡◌, ℕ, ◌+◌, ◌<◌, List, length, slice_index_or}
use Rattle.std.specs.List.{flat_map}
use Rattle.pam_page.specs.inner.KeptSteps.{code_text}
use Rattle.pam_page.specs.Page.{step_text}
use Rattle.pam_paths.specs.Tail.{tail_from}

-- `.CODE` for the first modules
abbrev pub codes_to : ℕ → List ℕ
codes_to count = flat_map code_text (tail_from 1 count)

-- ` NUMBER=CLASS` for the first modules
abbrev pub steps_to : ℕ → List ℕ
steps_to count = flat_map step_text (tail_from 1 count)

-- the texts of as many modules as there are ends, and the end of the step of each
pub record AreTailTexts (bounds dotted text : List ℕ) : Type 0 where
  pub cursor : dotted ≡ codes_to (length bounds)
  pub steps : text ≡ steps_to (length bounds)
  pub ends : (i : ℕ) → i < length bounds → slice_index_or bounds i 0 ≡ length (steps_to (i + 1))
