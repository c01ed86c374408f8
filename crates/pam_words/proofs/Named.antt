-- The set of the codes of names, one name after another.
use Rattle.std.proofs.Common.{◌≡◌, ◌∙◌, ◌++◌, ◌||◌, ◌&&◌, ◌<◌, ◌==◌, ℕ, Bool, true, false, List, [], ◌∷◌, eqb, get_or, is_some, length, not, refl, sym, ap}
use Rattle.std.proofs.Common.{Option, Some, None, if◌then◌else◌}
use Rattle.std.proofs.lemmas.List.Folds.{list_all-append, list_all_at, list_any-append}
use Rattle.std.specs.List.{list_all, list_any}
use Rattle.std.specs.Option.{option_map_or}
use Rattle.clap.specs.Words.{Text}
use Rattle.pam_codes.specs.Code.{all_codes}
use Rattle.pam_codes.specs.Set.{codes_where, is_in}
use Rattle.pam_codes.specs.inner.SetBits.{codes_where-same, is_in-codes_where}
use Rattle.pam_words.specs.Decisions.{code_named, names_code, set_named}

-- the byte at which a text is split
abbrev pub is_comma : ℕ → Bool
is_comma b = eqb b 44

-- a text is the name of a code
abbrev pub is_name : Text → Bool
is_name name = is_some (code_named name)

-- the set so far has the codes of the names so far
pub record HasCodesOf (set : List ℕ) (names : List Text) : Type 0 where
  pub codes : set ≡ codes_where (λ code. list_any (names_code code) names)
  pub named : list_all is_name names ≡ true

pub of_none : (set : List ℕ) → set ≡ [] → HasCodesOf set []
unfolding all_codes
of_none set e = record { codes = e; named = refl }

swapped : (a b : Bool) → (a || b) ≡ (b || (a || false))
swapped true true = refl
swapped true false = refl
swapped false true = refl
swapped false false = refl

module _ (set new : List ℕ) (names : List Text) (name : Text) (n : ℕ) (found : Some n ≡ code_named name) where
  pub of_one_more : HasCodesOf set names → new ≡ codes_where (λ c. c == n || is_in c set) → HasCodesOf new (names ++ name ∷ [])
  of_one_more before put = record {
    codes = put ∙ codes_where-same _ _ (λ code low.
        ap (λ t. eqb code n || t) (ap (is_in code) before.codes ∙ is_in-codes_where (λ c. list_any (names_code c) names) code low)
        ∙ swapped (eqb code n) (list_any (names_code code) names)
        ∙ ap (λ (o : Option ℕ). list_any (names_code code) names || (option_map_or (λ named. code == named) o false || false)) found
        ∙ sym (list_any-append (names_code code) names (name ∷ [])));
    named = list_all-append is_name names (name ∷ []) ∙ ap (λ t. t && (is_name name && true)) before.named
        ∙ ap (λ (o : Option ℕ). is_some o && true) (sym found);
  }

-- the names are all read
pub all_read : (set : List ℕ) (names all : List Text) → HasCodesOf set names → names ≡ all → Some set ≡ set_named all
unfolding set_named
all_read set names all read same =
    ap Some read.codes ∙ sym (ap (λ t. if t then Some (codes_where (λ code. list_any (names_code code) names)) else None) read.named) ∙ ap set_named same

-- a text that is no name of a code
pub one_unnamed : (all : List Text) (i : ℕ) (name : Text) → i < length all → name ≡ get_or all i name → None ≡ code_named name → None ≡ set_named all
unfolding set_named
one_unnamed all i name inside is none =
    let here : is_name (get_or all i name) ≡ false = ap is_name (sym is) ∙ ap (λ (o : Option ℕ). is_some o) (sym none) in
    sym (ap (λ t. if t then Some (codes_where (λ code. list_any (names_code code) all)) else None) (list_all_at is_name all i name inside here))

in_all : (code : ℕ) → code < 31 → is_in code all_codes ≡ true
unfolding all_codes
in_all code low = is_in-codes_where (λ c. true) code low

-- the codes that are not missing
pub all_without : (set missing : List ℕ) → set ≡ codes_where (λ c. is_in c all_codes && not (is_in c missing))
    → set ≡ codes_where (λ c. not (is_in c missing))
all_without set missing e =
    e ∙ codes_where-same (λ c. is_in c all_codes && not (is_in c missing)) (λ c. not (is_in c missing))
    (λ code low. ap (λ t. t && not (is_in code missing)) (in_all code low))
