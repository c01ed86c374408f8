-- The text of `explain`: what a fault or a finding means.
use Rattle.std.specs.Prelude.{ℕ, List, [], ◌∷◌, ◌++◌, codes}
use Rattle.std.specs.List.{flat_map, slice_split}
use Rattle.pam_text.specs.Cut.{is_among}
use Rattle.pam_explain.specs.Explanation.{Explanation}
use Rattle.pam_explain.specs.Explanations.{explanations}
use Rattle.pam_render.specs.sentences.Sentences.{level_name}

-- `NUMBER NAME (LEVEL)`, and the meaning
unfoldable pub head_text : Explanation → List ℕ
head_text e = e.number ++ codes " " ++ e.name ++ codes " (" ++ level_name e.level ++ codes ")\n" ++ e.meaning ++ codes "\n"

-- a line of an example, indented
abbrev pub example_line : List ℕ → List ℕ
example_line line = codes "    " ++ line ++ codes "\n"

-- the lines of a text, which have line feeds between them
abbrev pub lines_of : List ℕ → List (List ℕ)
lines_of text = slice_split (is_among (codes "\n")) text

unfoldable pub example_text : List ℕ → List ℕ
example_text [] = []
example_text (byte ∷ bytes) = codes "\nExample:\n" ++ flat_map example_line (lines_of (byte ∷ bytes))

-- what Linux-PAM does, and what to do
unfoldable pub rest_text : Explanation → List ℕ
rest_text e = codes "\nLinux-PAM: " ++ e.linux_pam ++ codes "\nTo mend it: " ++ e.mending ++ codes "\n"

-- THE TEXT of an explanation
abbrev pub explanation_text : Explanation → List ℕ
explanation_text e = head_text e ++ example_text e.example ++ rest_text e

-- `NUMBER NAME LEVEL`
unfoldable pub row_text : Explanation → List ℕ
row_text e = e.number ++ codes " " ++ e.name ++ codes " " ++ level_name e.level ++ codes "\n"

-- THE TEXT of the list of all explanations
abbrev pub explanations_text : List ℕ
explanations_text = flat_map row_text explanations
