-- The answers of modules: sets of at least one code.
use Rattle.std.proofs.Common.{◌≡◌, ◌≢◌, ◌∙◌, ◌+◌, ◌<◌, ◌≤◌, ◌==◌, ◌||◌, ◌&&◌, ℕ, Bool}
use Rattle.std.proofs.Common.{false, not, true, List, [], ◌∷◌, Option, Some, None, if◌then◌else◌, refl, sym, ap, arith, inl, inr}
use Rattle.std.specs.Option.{option_map_or}
use Rattle.std.proofs.lemmas.List.{nil_from_length}
use Rattle.std.proofs.lemmas.Bool.{cases_eq, cond-true, cond-false, cond_both, eq-eqb, ne_eqb}
use Rattle.pam_codes.specs.Code.{all_codes}
use Rattle.pam_codes.specs.Set.{codes_where, is_in, IsCodeSet}
use Rattle.pam_codes.specs.inner.SetBits.{codes_where-same, is_in-codes_where}
use Rattle.pam_conf.specs.Stack.{Items, ModuleText, module_at}
use Rattle.pam_conf.specs.declared.rule.Kind.{Kind}
use Rattle.pam_paths.specs.Known.{answers_by}
use Rattle.pam_paths.proofs.KnownCodes.{something_set}
use Rattle.pam_facts.specs.Answers.{answers_at, answers_of, called_answers, is_there, left_out, module_answers, or_failure, or_failures, refused_answers}
use Rattle.pam_facts.specs.Facts.{codes_in}
use Rattle.pam_facts.specs.Failing.{always_fails, failures}
use Rattle.pam_facts.specs.Fitting.{fact_of}
use Rattle.pam_facts.specs.Rows.{Row}
use Rattle.pam_facts.specs.declared.answers.Checks.{Checks}
use Rattle.pam_facts.specs.declared.row.Fact.{Fact}

pub two_codes : codes_where (λ c. c == 12 || is_in c (0 ∷ [])) ≡ 0 ∷ 12 ∷ []
unfolding all_codes
two_codes = refl

pub three_codes : codes_where (λ c. c == 25 || is_in c (0 ∷ 12 ∷ [])) ≡ 0 ∷ 12 ∷ 25 ∷ []
unfolding all_codes
three_codes = refl

-- a set of at least one code
pub record IsSomeSet (codes : List ℕ) : Type 0 where
  pub order : IsCodeSet codes
  pub some : codes ≢ []

in_order : (test : ℕ → Bool) → IsCodeSet (codes_where test)
in_order test = codes_where-same _ _ (λ c small. sym (is_in-codes_where test c small))

one_failure : IsSomeSet (7 ∷ [])
unfolding all_codes
one_failure = record { order = refl; some = λ none. absurd (cc) }

pub one_unknown : IsSomeSet (28 ∷ [])
unfolding all_codes
one_unknown = record { order = refl; some = λ none. absurd (cc) }

any_code : IsSomeSet all_codes
unfolding all_codes
any_code = record { order = refl; some = λ none. absurd (cc) }

some_failures : IsSomeSet failures
unfolding all_codes
some_failures = record { order = refl; some = λ none. absurd (cc) }

or_failure_some : (codes : List ℕ) → IsCodeSet codes → IsSomeSet (or_failure codes)
or_failure_some [] order = one_failure
or_failure_some (code ∷ codes) order = record { order = order; some = λ none. absurd (cc) }

or_failures_some : (codes : List ℕ) → IsCodeSet codes → IsSomeSet (or_failures codes)
or_failures_some [] order = some_failures
or_failures_some (code ∷ codes) order = record { order = order; some = λ none. absurd (cc) }

-- codes that are not empty are what they are
pub some_left : (codes : List ℕ) (empty : Bool) → (codes ≡ [] → empty ≡ true) → empty ≡ false → codes ≡ or_failures codes
some_left [] empty is not_empty = absurd (let no : false ≡ true = sym not_empty ∙ is refl in cc)
some_left (code ∷ codes) empty is not_empty = refl

refused_some : (kind : Kind) (fact : Fact) → IsSomeSet (refused_answers kind fact)
unfolding refused_answers
refused_some kind fact = or_failures_some _ (in_order (λ code. is_in code (codes_in kind fact) && not (is_in code (0 ∷ 12 ∷ 25 ∷ []))))

module _ (checks : Checks) (kind : Kind) where
  of_some : (fact : Fact) → IsSomeSet (answers_of checks kind fact)
  unfolding answers_of
  of_some fact = or_failure_some _ (in_order (λ code. is_in code (codes_in kind fact) && not (is_in code (left_out checks fact.class))))

  module _ (rows : List Row) (there : Option (List (List ℕ))) where
    called_some : (m : ModuleText) → IsSomeSet (called_answers checks kind rows m)
    called_some m =
        let fact = fact_of rows m.path m.arguments in
        cond_both (always_fails rows kind m) (refused_answers kind fact) (answers_of checks kind fact) IsSomeSet
        (λ _. refused_some kind fact) (λ _. of_some fact)

    module_some : (m : ModuleText) → IsSomeSet (module_answers checks kind rows there m)
    unfolding module_answers
    module_some m =
        cond_both (is_there there m.path) (called_answers checks kind rows m) (28 ∷ []) IsSomeSet (λ _. called_some m) (λ _. one_unknown)

    pub at_some : (items : Items) (number : ℕ) → IsSomeSet (answers_at checks kind rows there items number)
    unfolding answers_at
    at_some items number =
        elim (module_at number items) as (λ (o : Option ModuleText). IsSomeSet (option_map_or (module_answers checks kind rows there) o all_codes)) [
          | None ↦ any_code
          | Some m ↦ module_some m
        ]

-- a set that is stored allows exactly its codes
pub allowed : (set codes : List ℕ) (code : ℕ) → set ≡ codes → IsSomeSet codes → code < 31 → answers_by set code ≡ is_in code codes
allowed set codes code same is small =
    rw same (sym (ap (is_in code) (something_set codes is.order (λ none. is.some (nil_from_length codes none)))
    ∙ is_in-codes_where (answers_by codes) code small))

-- a set is stored for one module, and the others keep theirs
pub stored : (new old codes : ℕ → List ℕ) (i n : ℕ) → i < n →
    ((m : ℕ) → 1 ≤ m → m ≤ n → new m ≡ (if m == i + 1 then codes (i + 1) else old m)) → ((m : ℕ) → 1 ≤ m → m ≤ i → old m ≡ codes m) →
    (m : ℕ) → 1 ≤ m → m ≤ i + 1 → new m ≡ codes m
stored new old codes i n within put before m low high = elim (cases_eq m (i + 1)) [
  | inl e ↦ rw e (put (i + 1) (omega arith) (omega arith) ∙ cond-true (i + 1 == i + 1) _ _ (eq-eqb (i + 1) (i + 1) refl))
  | inr ne ↦ put m low (omega arith) ∙ cond-false (m == i + 1) _ _ (ne_eqb m (i + 1) ne) ∙ before m low (omega (arith, ne))
]
