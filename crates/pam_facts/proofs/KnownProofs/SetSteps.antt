-- The sets of codes of modules, found one after another.
use Rattle.std.proofs.Common.{◌≡◌, ◌≢◌, ℕ, ◌+◌, ◌<◌, ◌≤◌, ◌==◌, zero, suc, Bool, true, false, ◌||◌, not, List, [], ◌∷◌, cond, refl, sym}
use Rattle.std.proofs.Common.{◌∙◌, ap, subst, arith, inl, inr}
use Rattle.std.specs.Prelude.{Option, Some, None, Result, Ok}
use Rattle.std.specs.List.{list_any, range_with_len}
use Rattle.std.proofs.lemmas.Bool.{cases_eq, cond-true, cond-false, eq-eqb, ne_eqb, or_left, or_right}
use Rattle.std.proofs.lemmas.List.{nil_from_length}
use Rattle.pam_codes.specs.Code.{all_codes}
use Rattle.pam_codes.specs.Set.{is_in, IsCodeSet}
use Rattle.pam_codes.specs.inner.SetBits.{is_in-codes_where}
use Rattle.pam_paths.specs.Known.{answers_by}
use Rattle.pam_paths.proofs.KnownCodes.{nothing_set, something_set}
use Rattle.pam_facts.specs.declared.known.error.KnownError.{KnownError}
use Rattle.pam_facts.specs.known.Knowledge.{codes_by}
use Rattle.pam_facts.specs.known.inner.Sets.{Adds, AreDone, Lets}

-- ---- one module after another

module _ (n : ℕ) (before done : ℕ → List ℕ → Type 0) (old : ℕ → List ℕ) (i : ℕ) (h : i < n) (so_far : AreDone n before done old i) where
  -- the set of the next module stays
  pub stays : (before (i + 1) (old (i + 1)) → done (i + 1) (old (i + 1))) → AreDone n before done old (i + 1)
  stays step = record {
    first = λ m low high. elim (cases_eq m (i + 1)) [
      | inl e ↦ subst (λ (k : ℕ). done k (old k)) (sym e) (step (so_far.rest (i + 1) (omega arith) (omega arith)))
      | inr ne ↦ so_far.first m low (omega (arith, ne))
    ];
    rest = λ m low high. so_far.rest m (omega arith) high;
  }

  -- the set of the next module is replaced
  pub changes : (new : ℕ → List ℕ) (codes : List ℕ) → ((m : ℕ) → 1 ≤ m → m ≤ n → new m ≡ cond (m == i + 1) codes (old m)) →
      done (i + 1) codes → AreDone n before done new (i + 1)
  changes new codes put step = record {
    first = λ m low high. elim (cases_eq m (i + 1)) [
      | inl e ↦ subst (λ (k : ℕ). done k (new k)) (sym e)
          (subst (done (i + 1)) (sym (put (i + 1) (omega arith) (omega arith)
          ∙ cond-true (i + 1 == i + 1) codes (old (i + 1)) (eq-eqb (i + 1) (i + 1) refl))) step)
      | inr ne ↦ subst (done m) (sym (put m low (omega (arith, ne)) ∙ cond-false (m == i + 1) codes (old m) (ne_eqb m (i + 1) ne)))
          (so_far.first m low (omega (arith, ne)))
    ];
    rest = λ m low high.
        let ne : m ≢ i + 1 = λ e. omega (arith, e) in
        subst (before m) (sym (put m (omega arith) high ∙ cond-false (m == i + 1) codes (old m) (ne_eqb m (i + 1) ne))) (so_far.rest m (omega arith) high);
  }

-- ---- sets and codes

pub any_of_run : (test : ℕ → Bool) (a n k : ℕ) → a ≤ k → k < a + n → test k ≡ true → list_any test (range_with_len a n) ≡ true
any_of_run test a zero k low high t = absurd (omega arith)
any_of_run test a (suc n) k low high t = elim (cases_eq a k) [
  | inl e ↦ or_left (test a) (list_any test (range_with_len (a + 1) n)) (ap test e ∙ t)
  | inr ne ↦ or_right (test a) (list_any test (range_with_len (a + 1) n)) (any_of_run test (a + 1) n k (omega (arith, ne)) (omega arith) t)
]

or_none : (b : Bool) → (b || not true) ≡ b
or_none true = refl
or_none false = refl

-- a set that is not empty allows its own codes
lets_some : (codes : List ℕ) (k : ℕ) → k < 31 → is_in k codes ≡ true → Lets codes codes
unfolding Lets answers_by all_codes
lets_some codes k small member code h =
    ap (λ (b : Bool). is_in code codes || not b) (any_of_run (λ c. is_in c codes) 0 31 k (omega arith) (omega arith) member)
    ∙ or_none (is_in code codes)

pub lets_one : (code : ℕ) → code < 31 → Lets (code ∷ []) (code ∷ [])
lets_one code small = lets_some (code ∷ []) code small (or_left (code == code) false (eq-eqb code code refl))

pub lets_codes : (codes : List ℕ) → IsCodeSet codes → codes ≢ [] → Lets codes codes
unfolding Lets
lets_codes codes order some code h =
    sym (ap (is_in code) (something_set codes order (λ none. some (nil_from_length codes none))) ∙ is_in-codes_where (answers_by codes) code h)

-- an empty set allows all codes
pub lets_all : Lets all_codes []
unfolding Lets
lets_all code h = sym (ap (is_in code) (nothing_set [] all_codes refl refl) ∙ is_in-codes_where (answers_by []) code h)

-- ---- the sets of a module

-- `said` is what facts say of the module
module _ (told : Option (Result ℕ KnownError)) (said set : List ℕ) where
  pub told_set : (code : ℕ) → code < 31 → told ≡ Some (Ok code) → set ≡ code ∷ [] → Lets (codes_by told None said) set
  told_set code small is same =
      subst (λ (t : Option (Result ℕ KnownError)). Lets (codes_by t None said) set) (sym is)
      (subst (Lets (code ∷ [])) (sym same) (lets_one code small))

  pub untold_set : told ≡ None → Lets said set → Lets (codes_by told None said) set
  untold_set is h = subst (λ (t : Option (Result ℕ KnownError)). Lets (codes_by t None said) set) (sym is) h

  pub line_kept : (line : Option (List ℕ)) → Adds None told line → Lets (codes_by told None said) set → Lets (codes_by told line said) set
  line_kept line adds h = subst (λ (codes : List ℕ). Lets codes set) (sym (adds said)) h

  pub line_put : (line : Option (List ℕ)) → Adds (Some set) told line → Lets (codes_by told line said) set
  line_put line adds = subst (λ (codes : List ℕ). Lets codes set) (sym (adds.0 said)) (lets_codes set adds.1 adds.2)
