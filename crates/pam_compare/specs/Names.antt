-- Names of the modules of two stacks. Tied modules have one name, so that one assignment runs both stacks.
use Rattle.std.specs.Prelude.{◌≡◌, ◌⊎◌, ◌↔◌, ℕ, ◌+◌, ◌<◌, ◌≤◌, IsTrue, List, Option, slice_index_or}
use Rattle.pam_codes.specs.Code.{all_codes}
use Rattle.pam_codes.specs.Set.{is_in}
use Rattle.pam_dispatch.specs.Runs.{Assignment}
use Rattle.pam_paths.specs.Listing.{Allowance}
use Rattle.pam_compare.specs.Agreement.{AreTied}

-- the name of the new module j: the number of the old module to which it is tied; if it is tied to none, `count + j`
pub record IsName (old new : Allowance) (count : ℕ) (partners : List (Option ℕ)) (j name : ℕ) : Type 0 where
  pub either : ((name ≤ count) × AreTied old new count partners name j) ⊎ (name ≡ count + j)
  pub tied : (i : ℕ) → AreTied old new count partners i j → name ≡ i

-- the name of the new module with this number; 0 if there is none
abbrev pub name_of : List ℕ → ℕ → ℕ
name_of names number = slice_index_or names number 0

-- these are the names of the new modules
unfoldable pub AreNames : Allowance → Allowance → ℕ → ℕ → List (Option ℕ) → List ℕ → Type 0
AreNames old new count modules partners names =
    (j : ℕ) → 0 < j → j ≤ modules → IsName old new count partners j (name_of names j)

-- the answers of the new stack's modules, where each name has an answer
abbrev pub by_name : List ℕ → Assignment → Assignment
by_name names a number = a (name_of names number)

-- a code is allowed to each module with this name. Here the new module j has the name `count + j` too, even if it is tied
pub record IsAllowedTo (old new : Allowance) (count modules : ℕ) (names : List ℕ) (name code : ℕ) : Type 0 where
  pub of_old : 0 < name → name ≤ count → IsTrue (old name code)
  pub of_own : (j : ℕ) → 0 < j → j ≤ modules → count + j ≡ name → IsTrue (new j code)
  pub of_new : (j : ℕ) → 0 < j → j ≤ modules → name_of names j ≡ name → IsTrue (new j code)

-- by name, the codes that are allowed to each module with that name
unfoldable pub ArePossible : Allowance → Allowance → ℕ → ℕ → List ℕ → List (List ℕ) → Type 0
ArePossible old new count modules names possible =
    (name code : ℕ) → code < 31 → IsTrue (is_in code (slice_index_or possible name all_codes)) ↔ IsAllowedTo old new count modules names name code
