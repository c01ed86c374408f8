-- Which paths allowed answers can follow, in order: pam.conf(5), DESCRIPTION.
use Rattle.std.specs.Prelude.{◌≡◌, ◌↔◌, ℕ, ◌<◌, ◌≤◌, Bool, true, List}
use Rattle.std.specs.List.{list_any, list_all}
use Rattle.pam_dispatch.specs.Runs.{Assignment}
use Rattle.pam_text.specs.Members.{Member}
use Rattle.pam_paths.specs.Paths.{PathValue, key, Precedes, IsRising, IsFalling}

-- whether a module, by its number, may answer a code
abbrev pub Allowance : Type 0
Allowance = ℕ → ℕ → Bool

-- the answers of the modules 1 to n are codes
abbrev pub AreCodes : ℕ → Assignment → Type 0
AreCodes n answers = (m : ℕ) → 1 ≤ m → m ≤ n → answers m < 31

-- the answers of the modules 1 to n are codes that the knowledge allows
abbrev pub IsAllowed : Allowance → ℕ → Assignment → Type 0
IsAllowed allows n answers = (m : ℕ) → 1 ≤ m → m ≤ n → (answers m < 31) × (allows m (answers m) ≡ true)

-- the knowledge allows each of the modules 1 to n some code
abbrev pub IsLawful : Allowance → ℕ → Type 0
IsLawful allows n = (m : ℕ) → 1 ≤ m → m ≤ n → (code : ℕ) × (code < 31) × (allows m code ≡ true)

-- every code is allowed
abbrev pub anything : Allowance
anything m code = true

-- a path that an allowed assignment takes, where `path_by` is the path of each assignment
abbrev pub IsAllowedPath : Allowance → ℕ → (Assignment → PathValue) → PathValue → Type 0
IsAllowedPath allows n path_by path = (answers : Assignment) × IsAllowed allows n answers × (path ≡ path_by answers)

-- A LISTING of a stack of n modules under a knowledge: the keys rise strictly, and its members are exactly the paths
-- that allowed assignments take
pub record IsListing (allows : Allowance) (n : ℕ) (path_by : Assignment → PathValue) (paths : List PathValue) : Type 0 where
  pub rising : IsRising paths
  pub members : (path : PathValue) → Member path paths ↔ IsAllowedPath allows n path_by path

-- the part of a listing after a key
pub record IsListingAfter (allows : Allowance) (n : ℕ) (path_by : Assignment → PathValue) (k : List ℕ) (paths : List PathValue) : Type 0 where
  pub rising : IsRising paths
  pub members : (path : PathValue) → Member path paths ↔ (IsAllowedPath allows n path_by path × Precedes k (key path))

-- the part of a listing before a key, last first
pub record IsListingBefore (allows : Allowance) (n : ℕ) (path_by : Assignment → PathValue) (k : List ℕ) (paths : List PathValue) : Type 0 where
  pub falling : IsFalling paths
  pub members : (path : PathValue) → Member path paths ↔ (IsAllowedPath allows n path_by path × Precedes (key path) k)

-- a path can be followed: the class of each step has a code that its module may answer
abbrev pub can_follow : Allowance → PathValue → Bool
can_follow allows path = list_all (λ step. list_any (allows step.module_number) step.class) path.steps
