-- That the modules which two stacks ask are shown, each once: pam.conf(5), DESCRIPTION.
use Rattle.std.specs.Prelude.{◌≡◌, ◌⊎◌, ℕ, ◌<◌, ◌≤◌, List, Option, Some, None}
use Rattle.std.specs.List.{All, AllPairs, Any, Contains}
use Rattle.pam_compare.specs.Matching.{partner_of}
use Rattle.pam_dispatch.specs.Runs.{Assignment}
use Rattle.pam_changes.specs.declared.steps.AskedModule.{AskedModule}
use Rattle.pam_changes.specs.declared.steps.AskedModule.TheVariants.{Old, New, Both}

-- the module of the old stack that is shown, if one is, and the module of the new stack
abbrev pub old_number : AskedModule → Option ℕ
old_number (Old number code) = Some number
old_number (New number code) = None
old_number (Both old new code) = Some old

abbrev pub new_number : AskedModule → Option ℕ
new_number (Old number code) = None
new_number (New number code) = Some number
new_number (Both old new code) = Some new

-- the module of the old stack that is shown alone, if one is
abbrev pub number_alone : AskedModule → Option ℕ
number_alone (Old number code) = Some number
number_alone (New number code) = None
number_alone (Both old new code) = None

-- the answer that is shown
abbrev pub code_shown : AskedModule → ℕ
code_shown (Old number code) = code
code_shown (New number code) = code
code_shown (Both old new code) = code

-- a module with this number and answer is shown, of the old stack or of the new one
abbrev pub IsOld : ℕ → ℕ → AskedModule → Type 0
IsOld number code asked = (old_number asked ≡ Some number) × (code_shown asked ≡ code)

abbrev pub IsNew : ℕ → ℕ → AskedModule → Type 0
IsNew number code asked = (new_number asked ≡ Some number) × (code_shown asked ≡ code)

-- two do not show the same module of the old stack
abbrev pub ShowOthers : AskedModule → AskedModule → Type 0
ShowOthers one other = (number : ℕ) → old_number one ≡ Some number → old_number other ≡ Some number → ⊥

-- if both show a module of the new stack, the first shows an earlier one
abbrev pub AreInNewOrder : AskedModule → AskedModule → Type 0
AreInNewOrder one other = (i j : ℕ) → new_number one ≡ Some i → new_number other ≡ Some j → i < j

-- if the first shows a module of the old stack, and the second one of that stack alone, the first shows an earlier one
abbrev pub AreInOldOrder : AskedModule → AskedModule → Type 0
AreInOldOrder one other = (i j : ℕ) → old_number one ≡ Some i → number_alone other ≡ Some j → i < j

-- no two modules have the same partner
abbrev pub IsOneToOne : List (Option ℕ) → Type 0
IsOneToOne partners = (i j k : ℕ) → partner_of partners j ≡ Some i → partner_of partners k ≡ Some i → j ≡ k

-- numbers rise
abbrev pub Rise : List ℕ → Type 0
Rise numbers = AllPairs (λ one other. one < other) numbers

-- numbers are those of modules of a stack with this number of modules
abbrev pub AreModules : ℕ → List ℕ → Type 0
AreModules modules numbers = All (λ number. (1 ≤ number) × (number ≤ modules)) numbers

module _ (partners : List (Option ℕ)) (old_answers new_answers : Assignment) (old_asked new_asked : List ℕ) where
  -- the old stack asks a module or the new one asks its partner
  abbrev pub IsEitherAsked : ℕ → ℕ → Type 0
  IsEitherAsked old new = Contains old_asked old ⊎ Contains new_asked new

  -- a module that is asked, with its answer; or matched modules that answer alike, at least one of which is asked
  abbrev pub IsAsked : AskedModule → Type 0
  IsAsked (Old number code) = Contains old_asked number × (old_answers number ≡ code)
  IsAsked (New number code) = Contains new_asked number × (new_answers number ≡ code)
  IsAsked (Both old new code) =
      (partner_of partners new ≡ Some old) × (old_answers old ≡ code) × (new_answers new ≡ code) × IsEitherAsked old new

  -- WHAT IS SHOWN of two stacks, where the number given is that of the new one's modules: each module that they ask, once and with its answer, and no other.
  -- Matched modules that answer alike are shown as one. Modules of the new stack are in order, and before one of the old stack that is
  -- shown alone there are only earlier ones of that stack
  pub record AreShownOnce (modules : ℕ) (shown : List AskedModule) : Type 0 where
    pub old : (number : ℕ) → Contains old_asked number → Any (IsOld number (old_answers number)) shown
    pub new : (number : ℕ) → Contains new_asked number → Any (IsNew number (new_answers number)) shown
    pub no_other : All IsAsked shown
    pub as_one : (i j : ℕ) → 1 ≤ j → j ≤ modules → partner_of partners j ≡ Some i → old_answers i ≡ new_answers j → IsEitherAsked i j →
        Contains shown (Both i j (new_answers j))
    pub old_once : AllPairs ShowOthers shown
    pub new_in_order : AllPairs AreInNewOrder shown
    pub old_in_order : AllPairs AreInOldOrder shown
