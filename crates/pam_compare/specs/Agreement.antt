-- Answers of two stacks that agree: tied modules answer alike.
use Rattle.std.specs.Prelude.{◌≡◌, ℕ, ◌<◌, ◌≤◌, true, List, Option, Some}
use Rattle.pam_dispatch.specs.Runs.{Assignment}
use Rattle.pam_paths.specs.Listing.{Allowance}
use Rattle.pam_compare.specs.Matching.{partner_of}

-- some code is allowed to both modules
abbrev pub HaveCommonCode : Allowance → Allowance → ℕ → ℕ → Type 0
HaveCommonCode old new i j = (code : ℕ) × (code < 31) × (old i code ≡ true) × (new j code ≡ true)

-- modules i of the old stack and j of the new one are tied: they are matched, and some code is allowed to both
abbrev pub AreTied : Allowance → Allowance → ℕ → List (Option ℕ) → ℕ → ℕ → Type 0
AreTied old new count partners i j = (partner_of partners j ≡ Some i) × (0 < i) × (i ≤ count) × HaveCommonCode old new i j

-- two assignments agree: tied modules answer alike. The old stack has `count` modules, and the new one `modules`
unfoldable pub Agree : Allowance → Allowance → ℕ → ℕ → List (Option ℕ) → Assignment → Assignment → Type 0
Agree old new count modules partners a b =
    (i j : ℕ) → 0 < j → j ≤ modules → AreTied old new count partners i j → a i ≡ b j
