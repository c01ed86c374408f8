-- The verdict on codes among the paths of a stack, whatever is known of the answers: pam.conf(5), DESCRIPTION.
use Rattle.std.specs.Prelude.{◌≡◌, ◌≢◌, ℕ, ◌+◌, List, ◌∷◌, ◌++◌, length, Option, None, Some, IfSome}
use Rattle.pam_dispatch.specs.Runs.{Assignment}
use Rattle.pam_paths.specs.declared.cursor.CursorError.{CursorError}
use Rattle.pam_paths.specs.declared.cursor.CursorError.TheVariants.{Syntax, NotLeast, TooShort, TooLong}
use Rattle.pam_text.specs.Members.{Member}
use Rattle.pam_paths.specs.Classes.{least}
use Rattle.pam_paths.specs.Paths.{PathValue, StepValue, key, key_of}
use Rattle.pam_paths.specs.Listing.{AreCodes}

-- the codes are the key of some path
abbrev pub IsAccepted : ℕ → (Assignment → PathValue) → List ℕ → Type 0
IsAccepted n path_by codes = (answers : Assignment) × AreCodes n answers × (codes ≡ key (path_by answers))

-- some path has a step at this place, counted from 1: the codes before the place are the key of the path up to the
-- step, and the code at the place is in the class of the step, but not its least
pub record IsNotLeast (n : ℕ) (path_by : Assignment → PathValue) (codes : List ℕ) (place : ℕ) : Type 0 where
  pub answers : Assignment
  pub are_codes : AreCodes n answers
  pub earlier : List StepValue
  pub step : StepValue
  pub later : List StepValue
  pub steps : (path_by answers).steps ≡ earlier ++ step ∷ later
  pub code : ℕ
  pub rest : List ℕ
  pub parts : codes ≡ key_of earlier ++ code ∷ rest
  pub at : place ≡ length earlier + 1
  pub inside : Member code step.class
  pub other : code ≢ least step.class

-- the codes are a proper prefix of some key
abbrev pub IsTooShort : ℕ → (Assignment → PathValue) → List ℕ → Type 0
IsTooShort n path_by codes =
    (answers : Assignment) × AreCodes n answers × (code : ℕ) × (more : List ℕ) × (key (path_by answers) ≡ codes ++ code ∷ more)

-- some key is a proper prefix of the codes
abbrev pub IsTooLong : ℕ → (Assignment → PathValue) → List ℕ → Type 0
IsTooLong n path_by codes =
    (answers : Assignment) × AreCodes n answers × (code : ℕ) × (more : List ℕ) × (codes ≡ key (path_by answers) ++ code ∷ more)

-- the four verdicts on codes among the paths
pub data Verdict : Type 0 where
  accepted : Verdict
  not_least : ℕ → Verdict
  too_short : Verdict
  too_long : Verdict

-- codes have a verdict among the paths
abbrev pub HasVerdict : ℕ → (Assignment → PathValue) → List ℕ → Verdict → Type 0
HasVerdict n path_by codes accepted = IsAccepted n path_by codes
HasVerdict n path_by codes (not_least place) = IsNotLeast n path_by codes place
HasVerdict n path_by codes too_short = IsTooShort n path_by codes
HasVerdict n path_by codes too_long = IsTooLong n path_by codes

-- the verdict that an error reports; a syntax error reports none
abbrev pub verdict_told : CursorError → Option Verdict
verdict_told Syntax = None
verdict_told (NotLeast place) = Some (not_least place)
verdict_told TooShort = Some too_short
verdict_told TooLong = Some too_long

-- an error refuses a cursor if it reports the verdict on the cursor
abbrev pub IsRefusal : ℕ → (Assignment → PathValue) → List ℕ → CursorError → Type 0
IsRefusal n path_by codes error = IfSome (verdict_told error) (HasVerdict n path_by codes) × (verdict_told error ≢ None)
