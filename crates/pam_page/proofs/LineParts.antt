-- The texts of a line, part by part.
use Rattle.std.proofs.Common.{◌≡◌, ℕ, List, [], ◌∷◌, ◌++◌, Some, Option, codes, decimal, get_or, refl, sym, ap, ◌∙◌, zero, suc}
use Rattle.std.proofs.Common.{unwrap_or, slice_get, arith, length}
use Rattle.std.specs.List.{concat, flat_map}
use Rattle.pam_codes.specs.Code.{code_names}
use Rattle.pam_codes.specs.SetText.{names_text, set_text}
use Rattle.pam_page.specs.Page.{code_name, path_line, step_text}
use Rattle.pam_paths.specs.CursorText.{cursor_text}
use Rattle.pam_paths.specs.Paths.{PathValue, StepValue, key}

pub code_name-is : (code : ℕ) (name : List ℕ) → slice_get code_names code ≡ Some name → name ≡ code_name code
unfolding code_name
code_name-is code name e = sym (ap (λ (found : Option (List ℕ)). unwrap_or found []) e)

pub step_text-is : (step : StepValue) (number : ℕ) (class : List ℕ) → number ≡ step.module_number → class ≡ step.class
    → concat (codes " " ∷ decimal number ∷ codes "=" ∷ []) ++ set_text class ≡ step_text step
unfolding step_text
step_text-is step number class e f = rw (e, f) refl

pub path_line-is : (path : PathValue) (cursor name : List ℕ) (steps : List StepValue) → cursor ≡ key path → name ≡ code_name path.decision → steps ≡ path.steps
    → cursor_text cursor ++ concat (codes " " ∷ name ∷ []) ++ flat_map step_text steps ++ codes "\n" ≡ path_line path
unfolding path_line
path_line-is path cursor name steps e f g = rw (e, f, g) refl

-- the text of a class of one code, and of the class of all codes
named : (names : List (List ℕ)) (code : ℕ) → unwrap_or (slice_get names code) [] ≡ get_or names code []
named [] code = refl
named (name ∷ names) zero = refl
named (name ∷ names) (suc code) = named names code

pub set_text-one : (class : List ℕ) (code : ℕ) → length class ≡ 1 → Some code ≡ slice_get class 0 → code_name code ≡ set_text class
unfolding set_text names_text code_name
set_text-one [] code count first = absurd (omega (arith, count))
set_text-one (c ∷ []) code count first =
    let same : code ≡ c = cc in
    ap (λ (k : ℕ). unwrap_or (slice_get code_names k) []) same ∙ named code_names c
set_text-one (c ∷ d ∷ cs) code count first = absurd (omega (arith, count))

pub set_text-all : (class : List ℕ) → length class ≡ 31 → codes "any" ≡ set_text class
unfolding set_text
set_text-all class count = rw count refl
