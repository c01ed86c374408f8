-- The codes that are allowed to a name, one name at a time.
use Rattle.std.proofs.Common.{◌≡◌, ◌<◌, ◌≤◌, ◌+◌, ℕ, true, List, inl, inr, refl, subst, sym}
use Rattle.std.specs.Prelude.{slice_index_or}
use Rattle.std.proofs.lemmas.Bool.{cases_eq}
use Rattle.pam_codes.specs.Code.{all_codes}
use Rattle.pam_codes.specs.Set.{is_in}
use Rattle.pam_dispatch.specs.Runs.{Assignment}
use Rattle.pam_paths.specs.Listing.{Allowance}
use Rattle.pam_compare.specs.Names.{ArePossible, IsAllowedTo, name_of}
use Rattle.pam_compare.specs.inner.Naming.{IsKnown, IsPossible}
use Rattle.pam_compare.specs.inner.Trails.{with_answer}
use Rattle.pam_compare.proofs.Trails.{with-other, with-same}

-- what holds of a code at its name, and of each other name's own, holds of the answers with this code
each-with : (P : ℕ → ℕ → Type 0) (base : Assignment) (name code n : ℕ) → (n ≡ name → P n code) → P n (base n) → P n (with_answer base name code n)
each-with P base name code n here other =
    elim (cases_eq n name) [
      | inl same ↦ subst (P n) (sym (with-same base name code n same)) (here same)
      | inr apart ↦ subst (P n) (sym (with-other base name code n apart)) other
    ]

possible-with : (possible : List (List ℕ)) (base : Assignment) (name code : ℕ) → IsPossible possible base → code < 31 →
    is_in code (slice_index_or possible name all_codes) ≡ true → IsPossible possible (with_answer base name code)
unfolding IsPossible
possible-with possible base name code can low member n =
    each-with (λ m x. (x < 31) × (is_in x (slice_index_or possible m all_codes) ≡ true)) base name code n
    (λ same. (low, subst (λ (m : ℕ). is_in code (slice_index_or possible m all_codes) ≡ true) (sym same) member)) (can n)

module _ (old_allows new_allows : Allowance) (count modules : ℕ) (names : List ℕ) where
  known-with : (base : Assignment) (name code : ℕ) → IsKnown old_allows new_allows count modules names base → code < 31 →
      IsAllowedTo old_allows new_allows count modules names name code → IsKnown old_allows new_allows count modules names (with_answer base name code)
  known-with base name code known low may = record {
    codes = λ n. each-with (λ m x. x < 31) base name code n (λ same. low) (known.codes n);
    old = λ i first last. each-with (λ m x. old_allows i x ≡ true) base name code i
        (λ same. subst (λ (m : ℕ). old_allows m code ≡ true) (sym same)
        (may.of_old (subst (λ (m : ℕ). 0 < m) same first) (subst (λ (m : ℕ). m ≤ count) same last))) (known.old i first last);
    own = λ j first last. each-with (λ m x. new_allows j x ≡ true) base name code (count + j) (λ same. may.of_own j first last same) (known.own j first last);
    new = λ j first last. each-with (λ m x. new_allows j x ≡ true) base name code (name_of names j) (λ same. may.of_new j first last same)
        (known.new j first last);
  }

  -- a table that has all assignments that are known, and no others, has the codes of each name
  pub are-possible : (possible : List (List ℕ)) (base : Assignment) → IsPossible possible base →
      ((a : Assignment) → IsKnown old_allows new_allows count modules names a → IsPossible possible a) →
      ((a : Assignment) → IsPossible possible a → IsKnown old_allows new_allows count modules names a) →
      ArePossible old_allows new_allows count modules names possible
  unfolding ArePossible IsPossible
  are-possible possible base can fill exact name code low =
      let a : Assignment = with_answer base name code in
      let here : (n : ℕ) → n ≡ name → a n ≡ code = λ n same. with-same base name code n same in (
        λ member.
            let known = exact a (possible-with possible base name code can low member) in
            record {
              of_old = λ first last. subst (λ (x : ℕ). old_allows name x ≡ true) (here name refl) (known.old name first last);
              of_own = λ j first last same. subst (λ (x : ℕ). new_allows j x ≡ true) (here (count + j) same) (known.own j first last);
              of_new = λ j first last same. subst (λ (x : ℕ). new_allows j x ≡ true) (here (name_of names j) same) (known.new j first last);
            },
        λ may. subst (λ (x : ℕ). is_in x (slice_index_or possible name all_codes) ≡ true) (here name refl)
            (fill a (known-with base name code (exact base can) low may) name).1,
      )
