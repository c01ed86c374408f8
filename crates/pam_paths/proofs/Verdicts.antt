-- The verdict on codes among the paths of a run.
use Rattle.std.proofs.Common.{◌≡◌, ◌≢◌, ℕ, ◌+◌, ◌<◌, ◌==◌, List, [], ◌∷◌, ◌++◌, length, All, suc, refl, sym, ◌∙◌, ap, subst, arith, inl, inr}
use Rattle.std.proofs.lemmas.Bool.{eq-eqb, ne_eqb, cases_eq, cond-true, cond-false}
use Rattle.pam_dispatch.specs.declared.step.Outcome.{Outcome}
use Rattle.pam_dispatch.specs.Runs.{Ask, AsksRise, Assignment, Runs, asks, ends, outcome_of, asked_by, final_state}
use Rattle.pam_text.specs.Members.{Member}
use Rattle.pam_paths.specs.Classes.{class_of, least}
use Rattle.pam_paths.specs.Computed.{after_step}
use Rattle.pam_paths.specs.Paths.{PathValue, StepValue, key, key_of, path_of, step_of}
use Rattle.pam_paths.specs.Listing.{AreCodes}
use Rattle.pam_paths.specs.Cursor.{Verdict, HasVerdict, accepted, not_least, too_short, too_long}
use Rattle.pam_paths.specs.inner.Retrace.{further, verdict_of}
use Rattle.pam_paths.specs.Laws.{OneVerdict}
use Rattle.pam_paths.proofs.Alike.{in_class, of_class, class-same, least_of_class}
use Rattle.pam_paths.proofs.Listings.{path_of-same, path_of-step, with_answer, with_answer-at, with_answer-other}

-- codes that begin with the least of a class have the verdict of the others one step on
pub verdict-head : (ask : Ask) (next : Outcome → Runs) (c : ℕ) (cs : List ℕ) → least (class_of ask c) ≡ c →
    verdict_of (asks ask next) (c ∷ cs) ≡ further 1 (verdict_of (next (outcome_of ask c)) cs)
unfolding verdict_of
verdict-head ask next c cs e = cond-true (least (class_of ask c) == c) (further 1 (verdict_of (next (outcome_of ask c)) cs)) (not_least 1) (eq-eqb _ _ e)

pub verdict-other : (ask : Ask) (next : Outcome → Runs) (c : ℕ) (cs : List ℕ) → least (class_of ask c) ≢ c →
    verdict_of (asks ask next) (c ∷ cs) ≡ not_least 1
unfolding verdict_of
verdict-other ask next c cs e = cond-false (least (class_of ask c) == c) (further 1 (verdict_of (next (outcome_of ask c)) cs)) (not_least 1) (ne_eqb _ _ e)

-- so they do after the least code of the class of any code
pub verdict-least : (ask : Ask) (next : Outcome → Runs) (x : ℕ) (cs : List ℕ) → x < 31 →
    verdict_of (asks ask next) (least (class_of ask x) ∷ cs) ≡ further 1 (verdict_of (next (outcome_of ask x)) cs)
verdict-least ask next x cs low =
    let w = least_of_class ask x low in
    let l = least (class_of ask x) in
    verdict-head ask next l cs (ap least (class-same ask l x (sym w.0)))
    ∙ ap (λ (o : Outcome). further 1 (verdict_of (next o) cs)) (sym w.0)

pub further-more : (n : ℕ) (s : Verdict) → further n (further 1 s) ≡ further (n + 1) s
further-more n accepted = refl
further-more n (not_least j) = ap not_least (let e : n + (1 + j) ≡ n + 1 + j = omega arith in e)
further-more n too_short = refl
further-more n too_long = refl

pub further-none : (s : Verdict) → s ≡ further 0 s
further-none accepted = refl
further-none (not_least j) = ap not_least (let e : j ≡ 0 + j = omega arith in e)
further-none too_short = refl
further-none too_long = refl

head_of : {X : Type 0} {x y : X} {xs ys : List X} → x ∷ xs ≡ y ∷ ys → x ≡ y
head_of e = cc

tail_of : {X : Type 0} {x y : X} {xs ys : List X} → x ∷ xs ≡ y ∷ ys → xs ≡ ys
tail_of e = cc

nil_not_joined : {X : Type 0} (front : List X) (x : X) (rest : List X) → [] ≡ front ++ x ∷ rest → ⊥
nil_not_joined [] x rest e = let k : ⊥ = cc in k
nil_not_joined (y ∷ front) x rest e = let k : ⊥ = cc in k

-- THE COMPUTED VERDICT FOLLOWS FROM THE RELATIONS

accepted-is : (low n : ℕ) (runs : Runs) (a : Assignment) (k : List ℕ) → AsksRise low n runs → AreCodes n a → k ≡ key (path_of runs a) →
    verdict_of runs k ≡ accepted
unfolding AsksRise path_of key_of verdict_of asked_by final_state
accepted-is low n (ends s) a [] rise ok e = refl
accepted-is low n (ends s) a (c ∷ k) rise ok e = absurd (let x : ⊥ = cc in x)
accepted-is low n (asks ask next) a [] rise ok e = absurd (let x : ⊥ = cc in x)
accepted-is low n (asks ask next) a (c ∷ k) rise ok e =
    let x : ℕ = a ask.module_number in
    let h : c ≡ least (class_of ask x) = head_of e in
    let t : k ≡ key (path_of (next (outcome_of ask x)) a) = tail_of e in
    ap (λ (y : ℕ). verdict_of (asks ask next) (y ∷ k)) h
    ∙ verdict-least ask next x k (ok ask.module_number (omega (arith, rise.0)) rise.1)
    ∙ ap (further 1) (accepted-is ask.module_number n (next (outcome_of ask x)) a k (rise.2 (outcome_of ask x)) ok t)

too_short-is : (low n : ℕ) (runs : Runs) (a : Assignment) (k : List ℕ) (c : ℕ) (more : List ℕ) → AsksRise low n runs → AreCodes n a →
    key (path_of runs a) ≡ k ++ c ∷ more → verdict_of runs k ≡ too_short
unfolding AsksRise path_of key_of verdict_of asked_by final_state
too_short-is low n (ends s) a k c more rise ok e = absurd (nil_not_joined k c more e)
too_short-is low n (asks ask next) a [] c more rise ok e = refl
too_short-is low n (asks ask next) a (d ∷ k) c more rise ok e =
    let x : ℕ = a ask.module_number in
    let h : least (class_of ask x) ≡ d = head_of e in
    let t : key (path_of (next (outcome_of ask x)) a) ≡ k ++ c ∷ more = tail_of e in
    ap (λ (y : ℕ). verdict_of (asks ask next) (y ∷ k)) (sym h)
    ∙ verdict-least ask next x k (ok ask.module_number (omega (arith, rise.0)) rise.1)
    ∙ ap (further 1) (too_short-is ask.module_number n (next (outcome_of ask x)) a k c more (rise.2 (outcome_of ask x)) ok t)

too_long-is : (low n : ℕ) (runs : Runs) (a : Assignment) (k : List ℕ) (c : ℕ) (more : List ℕ) → AsksRise low n runs → AreCodes n a →
    k ≡ key (path_of runs a) ++ c ∷ more → verdict_of runs k ≡ too_long
unfolding AsksRise path_of key_of verdict_of asked_by final_state
too_long-is low n (ends s) a [] c more rise ok e = absurd (let x : ⊥ = cc in x)
too_long-is low n (ends s) a (d ∷ k) c more rise ok e = refl
too_long-is low n (asks ask next) a [] c more rise ok e = absurd (let x : ⊥ = cc in x)
too_long-is low n (asks ask next) a (d ∷ k) c more rise ok e =
    let x : ℕ = a ask.module_number in
    let h : d ≡ least (class_of ask x) = head_of e in
    let t : k ≡ key (path_of (next (outcome_of ask x)) a) ++ c ∷ more = tail_of e in
    ap (λ (y : ℕ). verdict_of (asks ask next) (y ∷ k)) h
    ∙ verdict-least ask next x k (ok ask.module_number (omega (arith, rise.0)) rise.1)
    ∙ ap (further 1) (too_long-is ask.module_number n (next (outcome_of ask x)) a k c more (rise.2 (outcome_of ask x)) ok t)

not_least-is : (low n : ℕ) (runs : Runs) (a : Assignment) (k : List ℕ) (place : ℕ) (front : List StepValue) (step : StepValue) (rest : List StepValue)
    (code : ℕ) (after : List ℕ) →
    AsksRise low n runs → AreCodes n a → (path_of runs a).steps ≡ front ++ step ∷ rest → k ≡ key_of front ++ code ∷ after → place ≡ length front + 1 →
    Member code step.class → code ≢ least step.class → verdict_of runs k ≡ not_least place
unfolding AsksRise path_of key_of asked_by final_state
not_least-is low n (ends s) a k place front step rest code after rise ok e f at inside other = absurd (nil_not_joined front step rest e)
not_least-is low n (asks ask next) a k place [] step rest code after rise ok e f at inside other =
    let x : ℕ = a ask.module_number in
    let h : step_of ask x ≡ step = head_of e in
    let i : Member code (class_of ask x) = subst (λ (s : StepValue). Member code s.class) (sym h) inside in
    let w = of_class ask x code i in
    let same : least (class_of ask code) ≡ least step.class = ap least (class-same ask code x (sym w.1)) ∙ ap (λ (s : StepValue). least s.class) h in
    ap (verdict_of (asks ask next)) f
    ∙ verdict-other ask next code after (λ q. other (sym q ∙ same))
    ∙ ap not_least (let z : 1 ≡ place = omega (arith, at) in z)
not_least-is low n (asks ask next) a k place (s ∷ front) step rest code after rise ok e f at inside other =
    let x : ℕ = a ask.module_number in
    let h : step_of ask x ≡ s = head_of e in
    let t : (path_of (next (outcome_of ask x)) a).steps ≡ front ++ step ∷ rest = tail_of e in
    ap (verdict_of (asks ask next)) (f ∙ ap (λ (y : StepValue). least y.class ∷ key_of front ++ code ∷ after) (sym h))
    ∙ verdict-least ask next x (key_of front ++ code ∷ after) (ok ask.module_number (omega (arith, rise.0)) rise.1)
    ∙ ap (further 1) (not_least-is ask.module_number n (next (outcome_of ask x)) a (key_of front ++ code ∷ after)
    (length front + 1) front step rest code after (rise.2 (outcome_of ask x)) ok t refl refl inside other)
    ∙ ap not_least (let z : 1 + (length front + 1) ≡ place = omega (arith, at) in z)

pub verdict-only : (n : ℕ) (runs : Runs) (k : List ℕ) (s : Verdict) → AsksRise 0 n runs → HasVerdict n (path_of runs) k s → s ≡ verdict_of runs k
verdict-only n runs k accepted rise h = sym (accepted-is 0 n runs h.0 k rise h.1 h.2)
verdict-only n runs k (not_least j) rise h =
    sym (not_least-is 0 n runs h.answers k j h.earlier h.step h.later h.code h.rest rise h.are_codes h.steps h.parts h.at h.inside h.other)
verdict-only n runs k too_short rise h = sym (too_short-is 0 n runs h.0 k h.2 h.3 rise h.1 h.4)
verdict-only n runs k too_long rise h = sym (too_long-is 0 n runs h.0 k h.2 h.3 rise h.1 h.4)

-- AND THE RELATIONS FOLLOW FROM IT

-- the path under an assignment with a code for the module asked
path-with : (ask : Ask) (next : Outcome → Runs) (n : ℕ) (a : Assignment) (c : ℕ) → ((o : Outcome) → AsksRise ask.module_number n (next o)) →
    path_of (asks ask next) (with_answer a ask.module_number c) ≡ after_step (step_of ask c) (path_of (next (outcome_of ask c)) a)
path-with ask next n a c rise =
    let m = ask.module_number in
    let b : Assignment = with_answer a m c in
    path_of-step ask next b c (ap (outcome_of ask) (with_answer-at a m c))
    ∙ ap (after_step (step_of ask c)) (sym (path_of-same m n (next (outcome_of ask c)) a b (rise (outcome_of ask c))
    (λ k l. sym (with_answer-other a m c k (λ e. omega (arith, l, e))))))

codes-with : (n m c : ℕ) (a : Assignment) → AreCodes n a → c < 31 → AreCodes n (with_answer a m c)
codes-with n m c a ok low k first last = elim (cases_eq k m) [
  | inl e ↦ subst (λ (x : ℕ). x < 31) (sym (ap (with_answer a m c) e ∙ with_answer-at a m c)) low
  | inr ne ↦ subst (λ (x : ℕ). x < 31) (sym (with_answer-other a m c k ne)) (ok k first last)
]

verdict-after : (ask : Ask) (next : Outcome → Runs) (n c : ℕ) (k : List ℕ) (s : Verdict) → ((o : Outcome) → AsksRise ask.module_number n (next o)) → c < 31 →
    least (class_of ask c) ≡ c → HasVerdict n (path_of (next (outcome_of ask c))) k s → HasVerdict n (path_of (asks ask next)) (c ∷ k) (further 1 s)
unfolding key_of
verdict-after ask next n c k accepted rise low head h =
    let p = path-with ask next n h.0 c rise in (
      with_answer h.0 ask.module_number c,
      codes-with n ask.module_number c h.0 h.1 low,
      ap (λ (x : ℕ). x ∷ k) (sym head) ∙ ap (λ (x : List ℕ). least (class_of ask c) ∷ x) h.2 ∙ sym (ap key p),
    )
verdict-after ask next n c k (not_least j) rise low head h =
    let p = path-with ask next n h.answers c rise in
    record {
      answers = with_answer h.answers ask.module_number c;
      are_codes = codes-with n ask.module_number c h.answers h.are_codes low;
      earlier = step_of ask c ∷ h.earlier;
      step = h.step;
      later = h.later;
      steps = ap (λ (x : PathValue). x.steps) p ∙ ap (λ (x : List StepValue). step_of ask c ∷ x) h.steps;
      code = h.code;
      rest = h.rest;
      parts = ap (λ (x : ℕ). x ∷ k) (sym head) ∙ ap (λ (x : List ℕ). least (class_of ask c) ∷ x) h.parts;
      at = omega (arith, h.at);
      inside = h.inside;
      other = h.other;
    }
verdict-after ask next n c k too_short rise low head h =
    let p = path-with ask next n h.0 c rise in (
      with_answer h.0 ask.module_number c,
      codes-with n ask.module_number c h.0 h.1 low,
      h.2,
      h.3,
      ap key p ∙ ap (λ (x : List ℕ). least (class_of ask c) ∷ x) h.4 ∙ ap (λ (x : ℕ). x ∷ k ++ h.2 ∷ h.3) head,
    )
verdict-after ask next n c k too_long rise low head h =
    let p = path-with ask next n h.0 c rise in (
      with_answer h.0 ask.module_number c,
      codes-with n ask.module_number c h.0 h.1 low,
      h.2,
      h.3,
      ap (λ (x : ℕ). x ∷ k) (sym head) ∙ ap (λ (x : List ℕ). least (class_of ask c) ∷ x) h.4 ∙ sym (ap (λ (x : PathValue). key x ++ h.2 ∷ h.3) p),
    )

zeros : Assignment
zeros m = 0

zeros-codes : (n : ℕ) → AreCodes n zeros
unfolding zeros
zeros-codes n m first last = omega arith

pub verdict-holds : (low n : ℕ) (runs : Runs) (k : List ℕ) → AsksRise low n runs → All (λ code. code < 31) k →
    HasVerdict n (path_of runs) k (verdict_of runs k)
unfolding AsksRise verdict_of path_of key_of asked_by final_state
verdict-holds low n (ends s) [] rise all = (zeros, zeros-codes n, refl)
verdict-holds low n (ends s) (c ∷ k) rise all = (zeros, zeros-codes n, c, k, refl)
verdict-holds low n (asks ask next) [] rise all =
    (zeros, zeros-codes n, least (class_of ask (zeros ask.module_number)), key (path_of (next (outcome_of ask (zeros ask.module_number))) zeros), refl)
verdict-holds low n (asks ask next) (c ∷ k) rise all =
    let code : c < 31 = all 0 c (omega arith) in
    elim (cases_eq (least (class_of ask c)) c) [
      | inl e ↦
          subst (HasVerdict n (path_of (asks ask next)) (c ∷ k)) (sym (verdict-head ask next c k e))
          (verdict-after ask next n c k (verdict_of (next (outcome_of ask c)) k) rise.2 code e
          (verdict-holds ask.module_number n (next (outcome_of ask c)) k (rise.2 (outcome_of ask c)) (λ i d l. all (suc i) d (omega (arith, l)))))
      | inr ne ↦
          subst (HasVerdict n (path_of (asks ask next)) (c ∷ k)) (sym (verdict-other ask next c k ne))
          (record {
            answers = with_answer zeros ask.module_number c;
            are_codes = codes-with n ask.module_number c zeros (zeros-codes n) code;
            earlier = [];
            step = step_of ask c;
            later = (path_of (next (outcome_of ask c)) zeros).steps;
            steps = ap (λ (x : PathValue). x.steps) (path-with ask next n zeros c rise.2);
            code = c;
            rest = k;
            parts = refl;
            at = omega arith;
            inside = in_class ask c c code refl;
            other = λ e. ne (sym e);
          })
    ]

pub verdict_proof : OneVerdict
verdict_proof n runs k rise all = (verdict_of runs k, verdict-holds 0 n runs k rise all, λ s h. verdict-only n runs k s rise h)
