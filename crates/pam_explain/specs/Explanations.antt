-- THE TABLE of what each fault and each finding means.
use Rattle.std.specs.Prelude.{ℕ, Bool, List, [], ◌∷◌, ◌++◌, bytes_eq, find, map, Option}
use Rattle.std.specs.Char.{to_ascii_lowercase}
use Rattle.pam_explain.specs.Explanation.{Explanation}
use Rattle.pam_explain.specs.Arguments.{of_arguments}
use Rattle.pam_explain.specs.Hosts.{of_hosts}
use Rattle.pam_explain.specs.Links.{of_links}
use Rattle.pam_explain.specs.Modules.{of_modules}
use Rattle.pam_explain.specs.Named.{of_named}
use Rattle.pam_explain.specs.OldTables.{of_old_tables}
use Rattle.pam_explain.specs.OwnFiles.{of_own_files}
use Rattle.pam_explain.specs.Paths.{of_paths}
use Rattle.pam_explain.specs.Policies.{of_policies}
use Rattle.pam_explain.specs.Released.{of_released}
use Rattle.pam_explain.specs.Rules.{of_rules}
use Rattle.pam_explain.specs.Stacks.{of_stacks}
use Rattle.pam_explain.specs.Tables.{of_tables}
use Rattle.pam_explain.specs.Words.{of_words}

-- in the order of the numbers
unfoldable pub families : List (List Explanation)
families =
    of_rules ∷ of_stacks ∷ of_tables ∷ of_own_files ∷ of_paths ∷ of_words ∷ of_named ∷ of_released ∷ of_old_tables ∷ of_hosts ∷ of_arguments ∷ of_modules
    ∷ of_links ∷ of_policies ∷ []

-- the rows of families, one family after the other
abbrev pub rows_of : List (List Explanation) → List Explanation
rows_of [] = []
rows_of (family ∷ others) = family ++ rows_of others

abbrev pub explanations : List Explanation
explanations = rows_of families

-- the row has this number, whatever the case of its letters
abbrev pub has_number : List ℕ → Explanation → Bool
has_number number e = bytes_eq (map to_ascii_lowercase e.number) (map to_ascii_lowercase number)

-- the first row with this number
abbrev pub explanation_of : List ℕ → Option Explanation
explanation_of number = find (has_number number) explanations
