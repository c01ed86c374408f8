-- For private contracts and proofs alone: one assignment for two stacks, in which tied modules have one name.
use Rattle.std.specs.Prelude.{◌≡◌, ℕ, ◌+◌, ◌<◌, ◌≤◌, true, List, Some, length, slice_index_or, IsTrue}
use Rattle.pam_codes.specs.Code.{all_codes}
use Rattle.pam_codes.specs.Set.{is_in}
use Rattle.pam_dispatch.specs.Runs.{Assignment}
use Rattle.pam_paths.specs.Listing.{Allowance}
use Rattle.pam_compare.specs.Names.{name_of}
use Rattle.pam_compare.specs.Usual.{first_usual}

-- for each name, a number that is at least that of each new module with this name
unfoldable pub AreLast : List ℕ → List ℕ → Type 0
AreLast names last = (k : ℕ) → 0 < k → k < length names → k ≤ name_of last (name_of names k)

-- unless it is 0, the number that is given for a name is that of a new module with this name
unfoldable pub AreFound : List ℕ → List ℕ → Type 0
AreFound names last = (name : ℕ) → 0 < name_of last name → (name_of last name < length names) × (name_of names (name_of last name) ≡ name)

-- the assignment in which each name answers the code that a list has for it
abbrev pub by_code : List ℕ → Assignment
by_code codes name = slice_index_or codes name 0

-- each name answers a code of its set
unfoldable pub IsPossible : List (List ℕ) → Assignment → Type 0
IsPossible possible a = (name : ℕ) → (a name < 31) × IsTrue (is_in (a name) (slice_index_or possible name all_codes))

-- each name has the first usual code of its set
unfoldable pub AreUsual : List (List ℕ) → List ℕ → Type 0
AreUsual possible codes = (name : ℕ) → name < length possible → first_usual (slice_index_or possible name all_codes) ≡ Some (by_code codes name)

-- an assignment for names that the knowledge of both stacks allows
pub record IsKnown (old_allows new_allows : Allowance) (count modules : ℕ) (names : List ℕ) (a : Assignment) : Type 0 where
  pub codes : (name : ℕ) → a name < 31
  pub old : (i : ℕ) → 0 < i → i ≤ count → old_allows i (a i) ≡ true
  pub own : (j : ℕ) → 0 < j → j ≤ modules → new_allows j (a (count + j)) ≡ true
  pub new : (j : ℕ) → 0 < j → j ≤ modules → new_allows j (a (name_of names j)) ≡ true
