-- The parts of a control, built one by one.
use Rattle.std.proofs.Common.{◌≡◌, ◌≢◌, ℕ, ◌<◌, ◌≤◌, ◌&&◌, Bool, true, false, not, List, [], ◌∷◌, ◌++◌, Option, Some, None, IsTrue, All, length}
use Rattle.std.proofs.Common.{get_or, slice_get, sym, ◌∙◌, ap, subst, inl, inr, arith}
use Rattle.std.specs.List.{AllPairs, Any}
use Rattle.std.proofs.lemmas.Bool.{and_from, and_parts, cases_Bool, cases_lt, cases_order, false≢true, not-true, not_from_false}
use Rattle.std.proofs.lemmas.List.{get_or_append_left, length-append}
use Rattle.std.proofs.lemmas.List.Elements.{All-nil, All-push, All-weaker}
use Rattle.std.proofs.lemmas.List.Quantifiers.{all_pairs_push, Any-push}
use Rattle.std.proofs.lemmas.Option.{get_or_from_slice_get, slice_get-get_or}
use Rattle.pam_codes.specs.declared.action.Action.{Action}
use Rattle.pam_codes.specs.declared.action.Action.TheVariants.{Ignore}
use Rattle.pam_codes.specs.declared.parts.Part.{Part}
use Rattle.pam_codes.specs.Action.{same_action}
use Rattle.pam_codes.specs.Code.{all_codes}
use Rattle.pam_codes.specs.Parts.{IsPart, IsParts, least_of}
use Rattle.pam_codes.specs.Set.{codes_where, is_in, IsCodeSet}
use Rattle.pam_codes.specs.inner.SetBits.{is_in-codes_where}
use Rattle.pam_codes.proofs.CodeSets.{codes_where-is_set}
use Rattle.pam_codes.proofs.Firsts.{FirstIn, first_at, first_of, none_first, past_codes}
use Rattle.pam_codes.proofs.SameActions.{same_action-self, same_action-true}

abbrev pub part_of : List ℕ → Action → Part
part_of codes action = record { codes = codes; action = action }

-- the codes that remain come after the part, and have another action
pub record IsPassed (control : List Action) (remaining : List ℕ) (part : Part) : Type 0 where
  pub other : (code : ℕ) → is_in code remaining ≡ true → slice_get control code ≡ Some part.action → ⊥
  pub before : (code : ℕ) → is_in code remaining ≡ true → least_of part < code

-- the parts of all codes but those that remain
pub record ArePartsBefore (control : List Action) (remaining : List ℕ) (parts : List Part) : Type 0 where
  pub each_part : All (IsPart control) parts
  pub each_code : (code : ℕ) → code < 31 → is_in code remaining ≡ false → Any (λ part. IsTrue (is_in code part.codes)) parts
  pub one_each : AllPairs (λ p q. p.action ≢ q.action) parts
  pub in_order : AllPairs (λ p q. least_of p < least_of q) parts
  pub passed : All (IsPassed control remaining) parts
  pub few : (code : ℕ) → is_in code remaining ≡ true → length parts ≤ code
  pub set : IsCodeSet remaining

abbrev Differ : Part → Part → Type 0
Differ p q = p.action ≢ q.action

abbrev InOrder : Part → Part → Type 0
InOrder p q = least_of p < least_of q

no_pairs : (R : Part → Part → Type 0) → AllPairs R []
no_pairs R i j d before within = absurd (omega arith)

-- before the first part
pub ArePartsBefore-none : (control : List Action) (remaining : List ℕ) (parts : List Part) → remaining ≡ all_codes → parts ≡ [] →
    ArePartsBefore control remaining parts
unfolding all_codes
ArePartsBefore-none control remaining parts all none = rw (all, none) record {
  each_part = All-nil (IsPart control);
  each_code = λ code low out. absurd (false≢true (sym out ∙ is_in-codes_where (λ c. true) code low));
  one_each = no_pairs Differ;
  in_order = no_pairs InOrder;
  passed = All-nil (IsPassed control all_codes);
  few = λ code h. omega arith;
  set = codes_where-is_set (λ c. true);
}

-- once no code remains
pub IsParts-all : (control : List Action) (remaining : List ℕ) (parts : List Part) → ArePartsBefore control remaining parts →
    slice_get remaining 0 ≡ None → IsParts control parts
IsParts-all control remaining parts now none = record {
  each_part = now.each_part;
  each_code = λ code low. now.each_code code low (ap (λ (codes : List ℕ). is_in code codes) (none_first remaining none));
  apart = λ code i j d before within at_i at_j.
      now.one_each i j d before within (some_same (sym ((now.each_part i d (omega arith)).acts code at_i) ∙ (now.each_part j d within).acts code at_j));
  one_each = now.one_each;
  in_order = now.in_order;
}
  where
    some_same : {a b : Action} → Some a ≡ Some b → a ≡ b
    some_same h = cc

-- some part still has a property after another part is pushed
any_before : (P : Part → Type 0) (parts : List Part) (part : Part) → Any P parts → Any P (parts ++ part ∷ [])
any_before P parts part h =
    (h.0, h.1, omega (arith, length-append parts (part ∷ []), h.2), get_or_append_left parts (part ∷ []) h.1 h.0 h.2 ∙ h.3, h.4)

-- one more part: the codes with the action of the least code that remains
module _ (control : List Action) (remaining : List ℕ) (parts : List Part) (now : ArePartsBefore control remaining parts)
    (code : ℕ) (action : Action) (long : length control ≡ 31)
    (first : slice_get remaining 0 ≡ Some code) (at : slice_get control code ≡ Some action) where
  least_code : FirstIn (λ c. is_in c remaining) 0 31 (Some code)
  least_code =
      subst (FirstIn (λ c. is_in c remaining) 0 31) (ap (λ (codes : List ℕ). slice_get codes 0) (sym now.set) ∙ first)
      (first_of (λ c. is_in c remaining))

  pub few_parts : length parts < 31
  few_parts = omega (arith, now.few code least_code.2, least_code.1)

  module _ (codes next : List ℕ) (codes_are : codes ≡ codes_where (λ c. same_action (get_or control c Ignore) action))
      (next_is : next ≡ codes_where (λ c. is_in c remaining && not (is_in c codes))) where
    abbrev acting : ℕ → Bool
    acting c = same_action (get_or control c Ignore) action

    in_codes : (c : ℕ) → c < 31 → is_in c codes ≡ same_action (get_or control c Ignore) action
    in_codes c low = ap (is_in c) codes_are ∙ is_in-codes_where (λ x. same_action (get_or control x Ignore) action) c low

    in_next : (c : ℕ) → c < 31 → is_in c next ≡ (is_in c remaining && not (is_in c codes))
    in_next c low = ap (is_in c) next_is ∙ is_in-codes_where (λ x. is_in x remaining && not (is_in x codes)) c low

    codes_act : (c : ℕ) → is_in c codes ≡ true → slice_get control c ≡ Some action
    codes_act c h = elim (cases_lt c 31) [
      | inl low ↦
          slice_get-get_or control c Ignore (omega (arith, long))
          ∙ ap (λ (a : Action). Some a) (same_action-true (get_or control c Ignore) action (sym (in_codes c low) ∙ h))
      | inr past ↦ absurd (false≢true (sym (ap (is_in c) codes_are ∙ past_codes _ c past) ∙ h))
    ]

    acting_codes : (c : ℕ) → c < 31 → slice_get control c ≡ Some action → is_in c codes ≡ true
    acting_codes c low h =
        in_codes c low ∙ ap (λ (a : Action). same_action a action) (get_or_from_slice_get control c action Ignore h) ∙ same_action-self action

    here : is_in code codes ≡ true
    here = acting_codes code (omega (arith, least_code.1)) at

    acting_here : acting code ≡ true
    acting_here = sym (in_codes code (omega (arith, least_code.1))) ∙ here

    -- a lesser code is in an earlier part, which has another action
    not_earlier : (c : ℕ) → c < code → c < 31 → acting c ≡ true → ⊥
    not_earlier c less low acts =
        let in_part = now.each_code c low (least_code.3 c (omega arith) less) in
        let part = get_or parts in_part.0 in_part.1 in
        let held : IsTrue (is_in c part.codes) = ap (λ (p : Part). is_in c p.codes) in_part.3 ∙ in_part.4 in
        let same : Some part.action ≡ Some action = sym ((now.each_part in_part.0 in_part.1 in_part.2).acts c held) ∙ codes_act c (in_codes c low ∙ acts) in
        (now.passed in_part.0 in_part.1 in_part.2).other code least_code.2 (at ∙ sym same)

    first_is : (found : Option ℕ) → FirstIn acting 0 31 found → found ≡ Some code
    first_is None h = absurd (false≢true (sym (h code (omega arith) (omega (arith, least_code.1))) ∙ acting_here))
    first_is (Some m) h = elim (cases_order m code) [
      | inl same ↦ ap (λ (n : ℕ). Some n) same
      | inr (inl less) ↦ absurd (not_earlier m less (omega (arith, h.1)) h.2)
      | inr (inr more) ↦ absurd (false≢true (sym (h.3 code (omega arith) more) ∙ acting_here))
    ]

    first_code : slice_get codes 0 ≡ Some code
    first_code = ap (λ (cs : List ℕ). slice_get cs 0) codes_are ∙ first_is _ (first_of acting)

    new_part : IsPart control (part_of codes action)
    new_part = record {
      set = subst IsCodeSet (sym codes_are) (codes_where-is_set (λ c. same_action (get_or control c Ignore) action));
      filled = (first_at codes code first_code).0;
      acts = codes_act;
    }

    stays : (c : ℕ) → is_in c next ≡ true → (c < 31) × (is_in c remaining ≡ true) × (is_in c codes ≡ false)
    stays c h = elim (cases_lt c 31) [
      | inl low ↦ let parts = and_parts (is_in c remaining) (not (is_in c codes)) (sym (in_next c low) ∙ h) in (low, parts.0, not-true _ parts.1)
      | inr past ↦ absurd (false≢true (sym (ap (is_in c) next_is ∙ past_codes _ c past) ∙ h))
    ]

    taken : (c : ℕ) → c < 31 → is_in c remaining ≡ true → is_in c next ≡ false → is_in c codes ≡ true
    taken c low in_it out = elim (cases_Bool (is_in c codes)) [
      | inl holds ↦ holds
      | inr lacks ↦ absurd (false≢true (sym out ∙ in_next c low ∙ and_from (is_in c remaining) (not (is_in c codes)) in_it (not_from_false _ lacks)))
    ]

    later : (c : ℕ) → is_in c next ≡ true → code < c
    later c h =
        let there = stays c h in
        elim (cases_order c code) [
          | inl same ↦ absurd (false≢true (sym there.2 ∙ ap (λ (x : ℕ). is_in x codes) same ∙ here))
          | inr (inl less) ↦ absurd (false≢true (sym (least_code.3 c (omega arith) less) ∙ there.1))
          | inr (inr more) ↦ more
        ]

    still_passed : (part : Part) → IsPassed control remaining part → IsPassed control next part
    still_passed part p = record {
      other = λ c h. p.other c (stays c h).1;
      before = λ c h. p.before c (stays c h).1;
    }

    now_passed : IsPassed control next (part_of codes action)
    now_passed = record {
      other = λ c h acts. let there = stays c h in false≢true (sym there.2 ∙ acting_codes c there.0 acts);
      before = λ c h. let first = (first_at codes code first_code).1 in omega (arith, first, later c h);
    }

    pub ArePartsBefore-more : ArePartsBefore control next (parts ++ part_of codes action ∷ [])
    ArePartsBefore-more = record {
      each_part = All-push (IsPart control) parts _ now.each_part new_part;
      each_code = λ c low out. elim (cases_Bool (is_in c remaining)) [
        | inl in_it ↦ Any-push (λ part. IsTrue (is_in c part.codes)) parts _ (taken c low in_it out)
        | inr not_in ↦ any_before (λ part. IsTrue (is_in c part.codes)) parts _ (now.each_code c low not_in)
      ];
      one_each = all_pairs_push Differ parts _ now.one_each (λ k d within same.
          (now.passed k d within).other code least_code.2 (at ∙ ap (λ (a : Action). Some a) (sym same)));
      in_order = all_pairs_push InOrder parts _ now.in_order (λ k d within.
          let first = (first_at codes code first_code).1 in omega (arith, first, (now.passed k d within).before code least_code.2));
      passed = All-push (IsPassed control next) parts _ (All-weaker _ _ still_passed parts now.passed) now_passed;
      few = λ c h. let there = stays c h in omega (arith, length-append parts (part_of codes action ∷ []), now.few code least_code.2, later c h);
      set = subst IsCodeSet (sym next_is) (codes_where-is_set _);
    }
