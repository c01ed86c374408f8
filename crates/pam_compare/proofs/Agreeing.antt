-- From names to assignments that agree.
use Rattle.std.proofs.Common.{◌≡◌, ◌<◌, ◌≤◌, ◌+◌, ◌-◌, ◌∙◌, ℕ, zero, suc, Bool, true, false, cond, List, Option, Some, None}
use Rattle.std.proofs.Common.{ap, sym, refl, subst, inl, inr, arith, leb}
use Rattle.std.specs.Prelude.{IfSome}
use Rattle.std.proofs.lemmas.Bool.{cases_lt}
use Rattle.pam_dispatch.specs.declared.flat_item.FlatItem.{FlatItem}
use Rattle.pam_dispatch.specs.declared.state.State.{State}
use Rattle.pam_dispatch.specs.Decision.{decision_of}
use Rattle.pam_dispatch.specs.Flat.{modules_of, runs_of}
use Rattle.pam_dispatch.specs.Runs.{Assignment, AsksRise, Runs, ends, asks, final_state, outcome_of}
use Rattle.pam_paths.specs.Listing.{Allowance, IsAllowed}
use Rattle.pam_compare.specs.declared.change.Change.{Change}
use Rattle.pam_compare.specs.declared.nodes.Found.{Found}
use Rattle.pam_compare.specs.declared.nodes.Way.{Way}
use Rattle.pam_compare.specs.declared.witness.Witness.{Witness}
use Rattle.pam_compare.specs.Changes.{change_of}
use Rattle.pam_compare.specs.Comparison.{IsShown, IsWitness, NeverChanges, decision_in}
use Rattle.pam_compare.specs.Agreement.{Agree}
use Rattle.pam_compare.specs.Names.{AreNames, by_name, name_of}
use Rattle.pam_compare.specs.inner.Naming.{IsKnown, IsPossible}
use Rattle.pam_compare.specs.inner.Nodes.{IsFoundWithin, IsSearched, found_at}
use Rattle.pam_compare.specs.Questions.{EndsAfter}
use Rattle.pam_compare.specs.Walks.{Order}
use Rattle.pam_compare.proofs.Growing.{nothing}
use Rattle.pam_compare.proofs.Questions.{each-ends, ends-same}

-- a run looks at the answers of its modules alone
pub same-final : (a b : Assignment) (low high : ℕ) (runs : Runs) → AsksRise low high runs →
    ((number : ℕ) → low < number → number ≤ high → a number ≡ b number) → final_state runs a ≡ final_state runs b
unfolding final_state AsksRise
same-final a b low high (ends s) rise same = refl
same-final a b low high (asks ask next) rise same =
    let next_a = outcome_of ask (a ask.module_number) in
    same-final a b ask.module_number high (next next_a) (rise.2 next_a) (λ n above most. same n (omega (arith, above, rise.0)) most)
    ∙ ap (λ (code : ℕ). final_state (next (outcome_of ask code)) b) (same ask.module_number rise.0 rise.1)

-- an assignment to the numbers from 1 to `count`; success for all others
unfoldable within : ℕ → Assignment → Assignment
within count a zero = 0
within count a (suc n) = cond (leb (suc n) count) (a (suc n)) 0

within-at : (count : ℕ) (a : Assignment) (n : ℕ) → 0 < n → n ≤ count → within count a n ≡ a n
unfolding within
within-at count a zero positive most = omega arith
within-at count a (suc n) positive most = let e : leb (suc n) count ≡ true = search (arith, most) in ap (λ t. cond t (a (suc n)) 0) e

within-code : (count : ℕ) (a : Assignment) → ((m : ℕ) → 1 ≤ m → m ≤ count → a m < 31) → (n : ℕ) → within count a n < 31
unfolding within
within-code count a codes zero = omega arith
within-code count a codes (suc n) =
    elim (cases_lt count (suc n)) [
      | inl past ↦ let e : leb (suc n) count ≡ false = search (arith, past) in
          subst (λ (t : Bool). cond t (a (suc n)) 0 < 31) (sym e) (omega arith)
      | inr most ↦ let e : leb (suc n) count ≡ true = search (arith, most) in
          subst (λ (t : Bool). cond t (a (suc n)) 0 < 31) (sym e) (codes (suc n) (omega arith) most)
    ]

-- one assignment for both: up to `count` the first, and then the second
unfoldable both : ℕ → Assignment → Assignment → Assignment
both count a b x = cond (leb x count) (a x) (b (x - count))

both-first : (count : ℕ) (a b : Assignment) (x : ℕ) → x ≤ count → both count a b x ≡ a x
unfolding both
both-first count a b x h = let e : leb x count ≡ true = search (arith, h) in ap (λ t. cond t (a x) (b (x - count))) e

both-second : (count : ℕ) (a b : Assignment) (j : ℕ) → 0 < j → both count a b (count + j) ≡ b j
unfolding both
both-second count a b j h =
    let e : leb (count + j) count ≡ false = search (arith, h) in
    let d : count + j - count ≡ j = omega arith in
    ap (λ t. cond t (a (count + j)) (b (count + j - count))) e ∙ ap b d

both-codes : (count : ℕ) (a b : Assignment) → ((x : ℕ) → a x < 31) → ((x : ℕ) → b x < 31) → (x : ℕ) → both count a b x < 31
unfolding both
both-codes count a b at_a at_b x = by (leb x count)
  where
    by : (t : Bool) → cond t (a x) (b (x - count)) < 31
    by true = at_a x
    by false = at_b (x - count)

-- one assignment to names, which makes the change that two assignments make, in as many steps
pub record Named (old new : List FlatItem) (names : List ℕ) (possible : List (List ℕ)) (a b : Assignment) : Type 0 where
  pub answers : Assignment
  pub can : IsPossible possible answers
  pub makes : change_of (decision_in (runs_of old) answers) (decision_in (runs_of new) (by_name names answers)) ≡
      change_of (decision_in (runs_of old) a) (decision_in (runs_of new) b)
  pub ends : (old_first : Order) (n : ℕ) → EndsAfter names old_first a b n (runs_of old) (runs_of new) →
      EndsAfter names old_first answers (by_name names answers) n (runs_of old) (runs_of new)

module _ (old_allows new_allows : Allowance) (old new : List FlatItem) (partners : List (Option ℕ)) (names : List ℕ)
    (named : AreNames old_allows new_allows (modules_of old) (modules_of new) partners names) where
  module _ (a b : Assignment) (old_codes : IsAllowed old_allows (modules_of old) a) (new_codes : IsAllowed new_allows (modules_of new) b)
      (agree : Agree old_allows new_allows (modules_of old) (modules_of new) partners a b) where
    one : Assignment
    one = both (modules_of old) (within (modules_of old) a) (within (modules_of new) b)

    at-old : (i : ℕ) → 0 < i → i ≤ modules_of old → one i ≡ a i
    unfolding one
    at-old i positive most =
        both-first (modules_of old) (within (modules_of old) a) (within (modules_of new) b) i most ∙ within-at (modules_of old) a i positive most

    at-own : (j : ℕ) → 0 < j → j ≤ modules_of new → one (modules_of old + j) ≡ b j
    unfolding one
    at-own j positive most =
        both-second (modules_of old) (within (modules_of old) a) (within (modules_of new) b) j positive ∙ within-at (modules_of new) b j positive most

    at-new : (j : ℕ) → 0 < j → j ≤ modules_of new → one (name_of names j) ≡ b j
    unfolding AreNames Agree
    at-new j positive most =
        let is = named j positive most in
        elim is.either [
          | inl tied ↦ at-old (name_of names j) tied.1.1 tied.0 ∙ agree (name_of names j) j positive most tied.1
          | inr own ↦ ap one own ∙ at-own j positive most
        ]

    is-known : IsKnown old_allows new_allows (modules_of old) (modules_of new) names one
    unfolding one
    is-known = record {
      codes = both-codes (modules_of old) (within (modules_of old) a) (within (modules_of new) b)
          (within-code (modules_of old) a (λ m first last. (old_codes m first last).0))
          (within-code (modules_of new) b (λ m first last. (new_codes m first last).0));
      old = λ i positive most. subst (λ (code : ℕ). old_allows i code ≡ true) (sym (at-old i positive most)) (old_codes i positive most).1;
      own = λ j positive most. subst (λ (code : ℕ). new_allows j code ≡ true) (sym (at-own j positive most)) (new_codes j positive most).1;
      new = λ j positive most. subst (λ (code : ℕ). new_allows j code ≡ true) (sym (at-new j positive most)) (new_codes j positive most).1;
    }

  module _ (possible : List (List ℕ))
      (can : (a : Assignment) → IsKnown old_allows new_allows (modules_of old) (modules_of new) names a → IsPossible possible a) where
    -- where no answers are possible, no change is made
    pub never-any : ((a : Assignment) → IsPossible possible a → ⊥) → (change : Change) → NeverChanges old_allows new_allows old new partners change
    unfolding NeverChanges
    never-any none change a b old_codes new_codes agree is = none (one a b old_codes new_codes agree) (can _ (is-known a b old_codes new_codes agree))

    module _ (rise_old : AsksRise 0 (modules_of old) (runs_of old)) (rise_new : AsksRise 0 (modules_of new) (runs_of new)) where
      -- one assignment that does what two do
      pub as-one : (a b : Assignment) → IsAllowed old_allows (modules_of old) a → IsAllowed new_allows (modules_of new) b →
          Agree old_allows new_allows (modules_of old) (modules_of new) partners a b → Named old new names possible a b
      as-one a b old_codes new_codes agree =
          let c = one a b old_codes new_codes agree in
          let left = same-final c a 0 (modules_of old) (runs_of old) rise_old (at-old a b old_codes new_codes agree) in
          let right = same-final (by_name names c) b 0 (modules_of new) (runs_of new) rise_new (at-new a b old_codes new_codes agree) in
          record {
            answers = c;
            can = can c (is-known a b old_codes new_codes agree);
            makes = ap (λ (s : State). change_of (decision_of s) (decision_in (runs_of new) (by_name names c))) left
                ∙ ap (λ (s : State). change_of (decision_in (runs_of old) a) (decision_of s)) right;
            ends = λ old_first n end. ends-same old new names old_first a b c (by_name names c)
                (λ i positive most. sym (at-old a b old_codes new_codes agree i positive most))
                (λ j positive most. sym (at-new a b old_codes new_codes agree j positive most)) n (runs_of old) (runs_of new) 0 0 rise_old rise_new end;
          }

      module _ (old_first : Order) (ways : List Way) (found : Found) (searched : IsSearched old new names old_first possible ways found) where
        never : (change : Change) → found_at found change ≡ None → NeverChanges old_allows new_allows old new partners change
        unfolding NeverChanges IsSearched
        never change missing a b old_codes new_codes agree is =
            let named = as-one a b old_codes new_codes agree in
            let walk = each-ends names old_first named.answers (by_name names named.answers) (runs_of old) (runs_of new) in
            let there : IsFoundWithin found ways walk.0 (Some change) =
            subst (IsFoundWithin found ways walk.0) (named.makes ∙ is) (searched named.answers walk.0 named.can walk.1) in
            nothing there.0 (sym missing ∙ there.1)

        -- a change that was not found is never made
        pub shown : (change : Change) (w : Option Witness) → IfSome w (IsWitness old_allows new_allows old new partners change) →
            (w ≡ None → found_at found change ≡ None) → IsShown old_allows new_allows old new partners change w
        shown change None h none = never change (none refl)
        shown change (Some w) h none = h
