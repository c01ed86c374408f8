-- Files that are added to those of a source.
use Rattle.std.proofs.Common.{◌≡◌, ◌∙◌, ◌++◌, ◌||◌, ◌+◌, Bool, true, false, not, cond, List, [], ◌∷◌, ℕ, suc, ap, map, refl, sym}
use Rattle.std.proofs.Common.{Some, None, arith, is_some, length, nat_lt}
use Rattle.std.proofs.lemmas.Bool.Decides.{nat_tests}
use Rattle.std.specs.List.{list_any, position_or_len}
use Rattle.std.specs.Str.{bytes_eq}
use Rattle.pam_conf.specs.Files.{Named, position_of, put_file}
use Rattle.pam_cli.specs.Sources.{is_given}

-- one of the names passes if and only if one of their list does
pub any-map : {A : Type 0} (text : A → List ℕ) (name : List ℕ) (xs : List A)
    → list_any (λ x. bytes_eq name (text x)) xs ≡ list_any (bytes_eq name) (map text xs)
any-map text name [] = refl
any-map text name (x ∷ xs) = ap (λ t. bytes_eq name (text x) || t) (any-map text name xs)

-- a name is among the names if and only if a file has it
pub among_names : {A : Type 0} (text : A → List ℕ) (name : List ℕ) (names : List A) (files : List Named) → map text names ≡ map (λ f. f.0) files
    → list_any (λ n. bytes_eq name (text n)) names ≡ is_given name files
among_names text name names files same = any-map text name names ∙ ap (list_any (bytes_eq name)) same ∙ sym (any-map (λ f. f.0) name files)

-- a file of a new name comes last
pub put_new : (name bytes : List ℕ) (files : List Named) → is_given name files ≡ false → put_file name bytes files ≡ files ++ (name, bytes) ∷ []
put_new name bytes [] new = refl
put_new name bytes (f ∷ files) new =
    elim (bytes_eq name f.0) as (λ (t : Bool). (t || is_given name files) ≡ false
    → cond t ((f.0, bytes) ∷ files) (f ∷ put_file name bytes files) ≡ f ∷ (files ++ (name, bytes) ∷ [])) [
      | true ↦ λ g. absurd (cc)
      | false ↦ λ g. ap (λ fs. f ∷ fs) (put_new name bytes files g)
    ] new

-- what a call found of a name holds of an equal one
pub as_found : (name given : List ℕ) (files : List Named) (found answer : Bool) → found ≡ is_given given files → given ≡ name → found ≡ answer
    → is_given name files ≡ answer
as_found name given files found answer is equal answered = ap (λ n. is_given n files) (sym equal) ∙ sym is ∙ answered

none_less : (n : ℕ) → nat_lt 0 (suc n) ≡ true
none_less n = grind (arith, nat_tests)

less_next : (n m : ℕ) → nat_lt (1 + n) (suc m) ≡ nat_lt n m
less_next n m = grind (arith, nat_tests)

-- an element is found before the end if and only if one passes
found_before : {A : Type 0} (p : A → Bool) (xs : List A) → nat_lt (position_or_len p xs) (length xs) ≡ list_any p xs
found_before p [] = refl
found_before p (x ∷ xs) =
    elim (p x) as (λ (t : Bool). nat_lt (cond (not t) (1 + position_or_len p xs) 0) (suc (length xs)) ≡ (t || list_any p xs)) [
      | true ↦ none_less (length xs)
      | false ↦ less_next (position_or_len p xs) (length xs) ∙ found_before p xs
    ]

some_if : {A : Type 0} (x : A) (t : Bool) → is_some (cond t (Some x) None) ≡ t
some_if x true = refl
some_if x false = refl

-- a file has a name if and only if it is found by it
pub is_given_found : (name : List ℕ) (files : List Named) → is_some (position_of name files) ≡ is_given name files
is_given_found name files = some_if _ _ ∙ found_before (λ f. bytes_eq name f.0) files

pub first_of_none : (a b : Bool) → (a || b) ≡ false → a ≡ false
first_of_none true b none = cc
first_of_none false b none = refl

pub second_of_none : (a b : Bool) → (a || b) ≡ false → b ≡ false
second_of_none true b none = cc
second_of_none false b none = none

pub neither : (a b : Bool) → a ≡ false → b ≡ false → (a || b) ≡ false
neither a b first second = rw (first, second) refl
