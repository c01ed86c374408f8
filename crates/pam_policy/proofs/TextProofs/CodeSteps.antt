-- The codes of items, one item after another.
use Rattle.std.proofs.Common.{◌≡◌, ◌∙◌, ◌++◌, ◌||◌, ◌&&◌, ◌<◌, ◌==◌, ℕ, Bool, true, false, List, [], ◌∷◌, Some, None, Ok, Err}
use Rattle.std.proofs.Common.{◌≤◌, ap, arith, cond, drop, get_or, length, min, nat_lt, not, refl, sym}
use Rattle.std.proofs.lemmas.Bool.{ltb-false, ltb-true}
use Rattle.std.proofs.lemmas.List.{drop_all}
use Rattle.std.proofs.lemmas.List.Folds.{list_all-append, list_all_at, list_any-append}
use Rattle.std.specs.List.{list_all, list_any}
use Rattle.pam_codes.specs.Code.{all_codes}
use Rattle.pam_codes.specs.Set.{codes_where, is_in}
use Rattle.pam_codes.specs.inner.SetBits.{codes_where-same, is_in-codes_where}
use Rattle.pam_tables.specs.Returns.{code_named}
use Rattle.pam_policy.specs.declared.text.error.PolicyFault.TheVariants.{BadCode}
use Rattle.pam_policy.specs.text.Codes.{codes_of_items, failures, is_failure, is_failure_item, is_item, item_names, some_codes}
use Rattle.pam_policy.specs.text.inner.Codes.{with_item}

-- the byte at which items are split
abbrev pub is_comma : ℕ → Bool
is_comma b = b == 44

pub failures_are : codes_where (λ c. is_in c all_codes
    && not (is_in c (codes_where (λ d. d == 25 || is_in d (codes_where (λ e. e == 12 || is_in e (0 ∷ [])))))))
    ≡ failures
unfolding all_codes
failures_are = refl

pub two_codes : codes_where (λ c. c == 12 || is_in c (0 ∷ [])) ≡ 0 ∷ 12 ∷ []
unfolding all_codes
two_codes = refl

pub three_codes : codes_where (λ c. c == 25 || is_in c (0 ∷ 12 ∷ [])) ≡ 0 ∷ 12 ∷ 25 ∷ []
unfolding all_codes
three_codes = refl

-- ---- one item

module _ (set item : List ℕ) where
  pub failure_added : (new : List ℕ) → is_failure_item item ≡ true → new ≡ codes_where (λ c. is_in c failures || is_in c set)
      → Some new ≡ with_item set item
  failure_added new e put =
      rw e (ap Some (put ∙ codes_where-same _ _ (λ code low. ap (λ (t : Bool). t || is_in code set) (is_in-codes_where is_failure code low))))

  pub code_added : (new : List ℕ) (n : ℕ) → is_failure_item item ≡ false → Some n ≡ code_named item → new ≡ codes_where (λ c. c == n || is_in c set)
      → Some new ≡ with_item set item
  code_added new n e found put = rw (e, sym found) (ap Some put)

  pub none_added : is_failure_item item ≡ false → None ≡ code_named item → None ≡ with_item set item
  none_added e none = rw (e, sym none) refl

-- ---- all items

-- the set so far has the codes of the items so far
pub record HasCodesOf (set : List ℕ) (items : List (List ℕ)) : Type 0 where
  pub are : set ≡ codes_where (λ code. list_any (item_names code) items)
  pub named : list_all is_item items ≡ true

pub of_none : (set : List ℕ) → set ≡ [] → HasCodesOf set []
unfolding all_codes
of_none set e = record { are = e; named = refl }

swapped : (a b : Bool) → (a || b) ≡ (b || (a || false))
swapped true true = refl
swapped true false = refl
swapped false true = refl
swapped false false = refl

record IsAdded (set new item : List ℕ) : Type 0 where
  is : is_item item ≡ true
  put : new ≡ codes_where (λ code. item_names code item || is_in code set)

added : (set new item : List ℕ) (t : Bool) → is_item item ≡ t
    → Some new ≡ cond t (Some (codes_where (λ code. item_names code item || is_in code set))) None → IsAdded set new item
added set new item true e h = record { is = e; put = cc }
added set new item false e h = absurd (cc)

pub one_more : (set new : List ℕ) (items : List (List ℕ)) (item : List ℕ) → HasCodesOf set items → Some new ≡ with_item set item
    → HasCodesOf new (items ++ item ∷ [])
one_more set new items item before h =
    let this = added set new item (is_item item) refl h in
    record {
      are = this.put ∙ codes_where-same _ _ (λ code low.
          ap (λ (t : Bool). item_names code item || t)
          (ap (is_in code) before.are ∙ is_in-codes_where (λ c. list_any (item_names c) items) code low)
          ∙ swapped (item_names code item) (list_any (item_names code) items)
          ∙ sym (list_any-append (item_names code) items (item ∷ [])));
      named = list_all-append is_item items (item ∷ []) ∙ ap (λ (t : Bool). t && (is_item item && true)) before.named
          ∙ ap (λ (t : Bool). t && true) this.is;
    }

pub all_read : (set : List ℕ) (items all : List (List ℕ)) → HasCodesOf set items → items ≡ all → Some set ≡ codes_of_items all
unfolding codes_of_items
all_read set items all read same =
    ap Some read.are ∙ sym (ap (λ (t : Bool). cond t (Some (codes_where (λ code. list_any (item_names code) items))) None) read.named)
    ∙ ap codes_of_items same

no_item : (set item : List ℕ) (t : Bool) → is_item item ≡ t
    → None ≡ cond t (Some (codes_where (λ code. item_names code item || is_in code set))) None → is_item item ≡ false
no_item set item true e h = absurd (cc)
no_item set item false e h = e

pub one_bad : (set : List ℕ) (all : List (List ℕ)) (i : ℕ) (item : List ℕ) → i < length all → item ≡ get_or all i item → None ≡ with_item set item
    → None ≡ codes_of_items all
unfolding codes_of_items
one_bad set all i item inside is none =
    let here : is_item (get_or all i item) ≡ false = ap is_item (sym is) ∙ no_item set item (is_item item) refl none in
    sym (ap (λ (t : Bool). cond t (Some (codes_where (λ code. list_any (item_names code) all))) None) (list_all_at is_item all i item inside here))

-- ---- the codes that are left

pub in_all : (code : ℕ) → code < 31 → is_in code all_codes ≡ true
unfolding all_codes
in_all code low = is_in-codes_where (λ c. true) code low

-- the codes that are not named
pub all_without : (set named : List ℕ) → set ≡ codes_where (λ c. is_in c all_codes && not (is_in c named)) → set ≡ codes_where (λ c. not (is_in c named))
all_without set named e =
    e ∙ codes_where-same (λ c. is_in c all_codes && not (is_in c named)) (λ c. not (is_in c named))
    (λ code low. ap (λ (t : Bool). t && not (is_in code named)) (in_all code low))

pub some_left : (set : List ℕ) → (set ≡ [] → ⊥) → Ok set ≡ some_codes (Some set)
some_left [] some = absurd (some refl)
some_left (code ∷ more) some = refl

pub none_left : (set : List ℕ) → set ≡ [] → Err BadCode ≡ some_codes (Some set)
none_left [] none = refl
none_left (code ∷ more) none = absurd (cc)

-- ---- the first bytes of a text

pub drop_min : (n : ℕ) (xs : List ℕ) → drop (min n (length xs)) xs ≡ drop n xs
drop_min n xs = by_room (nat_lt (length xs) n) refl
  where
    by_room : (t : Bool) → nat_lt (length xs) n ≡ t → drop (min n (length xs)) xs ≡ drop n xs
    by_room true e =
        let beyond : length xs < n = ltb-true _ _ e in
        let least : min n (length xs) ≡ length xs = omega arith in
        ap (λ (k : ℕ). drop k xs) least ∙ drop_all (length xs) xs (omega arith) ∙ sym (drop_all n xs (omega arith))
    by_room false e =
        let within : n ≤ length xs = ltb-false _ _ e in
        let least : min n (length xs) ≡ n = omega arith in
        ap (λ (k : ℕ). drop k xs) least
