-- What the classes of codes have in common.
use Rattle.std.proofs.Common.{◌≡◌, ℕ, ◌+◌, ◌<◌, ◌≤◌, Bool, true, ◌&&◌, List, [], ◌∷◌, zero, suc, refl, sym, ◌∙◌, ap, inl, inr, arith}
use Rattle.std.specs.Prelude.{filter, ◌==◌}
use Rattle.std.specs.List.{list_any}
use Rattle.std.proofs.lemmas.Bool.{eqb-true, eq-eqb, and_parts, and_from, or_left, or_right, or_cases, cases_eq, cond_both, false≢true}
use Rattle.pam_dispatch.specs.declared.state.Impression.{Impression}
use Rattle.pam_dispatch.specs.declared.state.Impression.TheVariants.{Undef, Positive, Negative}
use Rattle.pam_dispatch.specs.declared.step.Outcome.{Outcome}
use Rattle.pam_codes.specs.Code.{all_codes}
use Rattle.pam_dispatch.specs.Runs.{Ask, outcome_of}
use Rattle.pam_dispatch.specs.State.{impression_number}
use Rattle.pam_text.specs.Members.{Member}
use Rattle.pam_paths.specs.Classes.{class_at, class_of, least, same_outcome}
use Rattle.pam_paths.specs.Computed.{is_offered}
use Rattle.pam_paths.specs.Listing.{Allowance}
use Rattle.std.specs.List.{range_with_len}

same_impression : (i j : Impression) → impression_number i ≡ impression_number j → i ≡ j
same_impression Undef Undef h = refl
same_impression Undef Positive h = absurd (omega arith)
same_impression Undef Negative h = absurd (omega arith)
same_impression Positive Undef h = absurd (omega arith)
same_impression Positive Positive h = refl
same_impression Positive Negative h = absurd (omega arith)
same_impression Negative Undef h = absurd (omega arith)
same_impression Negative Positive h = absurd (omega arith)
same_impression Negative Negative h = refl

outcome : Impression → ℕ → ℕ → Outcome
outcome i s l = record { state = record { impression = i; status = s }; left = l }

pub same_outcome-true : (o p : Outcome) → same_outcome o p ≡ true → o ≡ p
unfolding same_outcome outcome
same_outcome-true o p h =
    let both = and_parts ((impression_number o.state.impression == impression_number p.state.impression) && (o.state.status == p.state.status))
    (o.left == p.left) h in
    let parts = and_parts (impression_number o.state.impression == impression_number p.state.impression) (o.state.status == p.state.status) both.0 in
    let i = same_impression _ _ (eqb-true _ _ parts.0) in
    let s = eqb-true _ _ parts.1 in
    let l = eqb-true _ _ both.1 in
    ap (λ (x : Impression). outcome x o.state.status o.left) i
    ∙ ap (λ (x : ℕ). outcome p.state.impression x o.left) s
    ∙ ap (λ (x : ℕ). outcome p.state.impression p.state.status x) l

pub same_outcome-self : (o : Outcome) → same_outcome o o ≡ true
unfolding same_outcome
same_outcome-self o =
    and_from ((impression_number o.state.impression == impression_number o.state.impression) && (o.state.status == o.state.status)) (o.left == o.left)
    (and_from (impression_number o.state.impression == impression_number o.state.impression) (o.state.status == o.state.status)
    (eq-eqb (impression_number o.state.impression) _ refl) (eq-eqb o.state.status _ refl))
    (eq-eqb o.left _ refl)

pub same_outcome-from : (o p : Outcome) → o ≡ p → same_outcome o p ≡ true
same_outcome-from o p e = rw e (same_outcome-self p)

-- members of a filter
pub Member-filter : {X : Type 0} (test : X → Bool) (xs : List X) (x : X) → Member x xs → test x ≡ true → Member x (filter test xs)
unfolding Member
Member-filter test [] x h t = h
Member-filter test (y ∷ ys) x (inl e) t =
    cond_both (test y) (y ∷ filter test ys) (filter test ys) (λ l. Member x l)
    (λ k. inl e)
    (λ k. absurd (false≢true (sym k ∙ sym (ap test e) ∙ t)))
Member-filter test (y ∷ ys) x (inr h) t =
    cond_both (test y) (y ∷ filter test ys) (filter test ys) (λ l. Member x l)
    (λ k. inr (Member-filter test ys x h t))
    (λ k. Member-filter test ys x h t)

pub Member-filter_back : {X : Type 0} (test : X → Bool) (xs : List X) (x : X) → Member x (filter test xs) → Member x xs × (test x ≡ true)
unfolding Member
Member-filter_back test [] x h = absurd h
Member-filter_back test (y ∷ ys) x h =
    cond_both (test y) (y ∷ filter test ys) (filter test ys)
    (λ l. (Member x l → (Member x (filter test ys) → Member x ys × (test x ≡ true)) → (Member x (y ∷ ys) × (test x ≡ true))))
    (λ k i again. elim i [ inl e ↦ (inl e, ap test e ∙ k) | inr j ↦ (inr (again j).0, (again j).1) ])
    (λ k i again. (inr (again i).0, (again i).1))
    h (Member-filter_back test ys x)

pub Member-codes : (first n c : ℕ) → first ≤ c → c < first + n → Member c (range_with_len first n)
unfolding Member
Member-codes first zero c low high = absurd (omega arith)
Member-codes first (suc n) c low high =
    elim (cases_eq c first) [
      | inl e ↦ inl e
      | inr ne ↦ inr (Member-codes (first + 1) n c (omega arith) (omega arith))
    ]

pub Member-codes_back : (first n c : ℕ) → Member c (range_with_len first n) → (first ≤ c) × (c < first + n)
unfolding Member
Member-codes_back first zero c h = absurd h
Member-codes_back first (suc n) c (inl e) = (omega arith, omega arith)
Member-codes_back first (suc n) c (inr h) =
    let again = Member-codes_back (first + 1) n c h in (omega arith, omega arith)

-- the least code that passes
pub least-filter : (test : ℕ → Bool) (first n c : ℕ) → first ≤ c → c < first + n → test c ≡ true →
    (test (least (filter test (range_with_len first n))) ≡ true)
    × (first ≤ least (filter test (range_with_len first n)))
    × (least (filter test (range_with_len first n)) ≤ c)
least-filter test first zero c low high t = absurd (omega arith)
least-filter test first (suc n) c low high t =
    cond_both (test first) (first ∷ filter test (range_with_len (first + 1) n)) (filter test (range_with_len (first + 1) n))
    (λ l. (test (least l) ≡ true) × (first ≤ least l) × (least l ≤ c))
    (λ k. (k, omega arith, low))
    (λ k.
    let apart : c ≡ first → ⊥ = λ e. false≢true (sym k ∙ sym (ap test e) ∙ t) in
    let again = least-filter test (first + 1) n c (omega arith) (omega arith) t in
    (again.0, omega arith, again.2))

-- some element passes
pub list_any_from : (test : ℕ → Bool) (xs : List ℕ) (x : ℕ) → Member x xs → test x ≡ true → list_any test xs ≡ true
unfolding Member
list_any_from test [] x h t = absurd h
list_any_from test (y ∷ ys) x (inl e) t = or_left (test y) _ (sym (ap test e) ∙ t)
list_any_from test (y ∷ ys) x (inr h) t = or_right (test y) _ (list_any_from test ys x h t)

pub list_any_back : (test : ℕ → Bool) (xs : List ℕ) → list_any test xs ≡ true → (x : ℕ) × Member x xs × (test x ≡ true)
unfolding Member
list_any_back test [] h = absurd (false≢true h)
list_any_back test (y ∷ ys) h =
    elim (or_cases (test y) (list_any test ys) h) [
      | inl t ↦ (y, inl refl, t)
      | inr k ↦ let again = list_any_back test ys k in (again.0, inr again.1, again.2)
    ]

-- a code with the same outcome is in the class
pub in_class : (ask : Ask) (c d : ℕ) → d < 31 → outcome_of ask c ≡ outcome_of ask d → Member d (class_of ask c)
unfolding class_at all_codes
in_class ask c d low e =
    Member-filter (λ x. same_outcome (outcome_of ask c) (outcome_of ask x)) (range_with_len 0 31) d
    (Member-codes 0 31 d (omega arith) (omega arith)) (same_outcome-from _ _ e)

pub of_class : (ask : Ask) (c d : ℕ) → Member d (class_of ask c) → (d < 31) × (outcome_of ask c ≡ outcome_of ask d)
unfolding class_at all_codes
of_class ask c d h =
    let k = Member-filter_back (λ x. same_outcome (outcome_of ask c) (outcome_of ask x)) (range_with_len 0 31) d h in
    let b = Member-codes_back 0 31 d k.0 in
    (omega arith, same_outcome-true _ _ k.1)

-- the least code of a class is alike to all of it
pub least_of_class : (ask : Ask) (c : ℕ) → c < 31 →
    (outcome_of ask c ≡ outcome_of ask (least (class_of ask c))) × (least (class_of ask c) ≤ c)
unfolding class_at all_codes
least_of_class ask c low =
    let k = least-filter (λ x. same_outcome (outcome_of ask c) (outcome_of ask x)) 0 31 c (omega arith) (omega arith)
    (same_outcome-self (outcome_of ask c)) in
    (same_outcome-true _ _ k.0, k.2)

pub class-same : (ask : Ask) (c d : ℕ) → outcome_of ask c ≡ outcome_of ask d → class_of ask c ≡ class_of ask d
class-same ask c d e = ap (λ (o : Outcome). class_at ask o) e

-- the least code of a class with an allowed code is offered
pub least_is_offered : (allows : Allowance) (ask : Ask) (c : ℕ) → c < 31 → allows ask.module_number c ≡ true →
    is_offered allows ask (least (class_of ask c)) ≡ true
unfolding is_offered
least_is_offered allows ask c low t =
    let k = least_of_class ask c low in
    let same = class-same ask (least (class_of ask c)) c (sym k.0) in
    let l = least (class_of ask c) in
    and_from (least (class_of ask l) == l) (list_any (allows ask.module_number) (class_of ask l))
    (eq-eqb _ _ (ap least same))
    (list_any_from (allows ask.module_number) _ c (in_class ask _ c low (sym k.0)) t)
