-- The outcomes of codes with one action, and of codes whose action looks at them.
use Rattle.std.proofs.Common.{◌≡◌, ℕ, ◌==◌, ◌&&◌, ◌⊎◌, Bool, true, false, cond, IsTrue, refl, sym, ◌∙◌, ap, inl, inr}
use Rattle.std.proofs.lemmas.Bool.{eqb-true, false≢true}
use Rattle.pam_codes.specs.declared.action.Action.{Action}
use Rattle.pam_codes.specs.declared.action.Action.TheVariants.{Ignore, Ok as Accept, Done, Bad, Die, Reset, Jump}
use Rattle.pam_dispatch.specs.declared.state.Impression.{Impression}
use Rattle.pam_dispatch.specs.declared.state.Impression.TheVariants.{Undef, Positive, Negative}
use Rattle.pam_dispatch.specs.declared.state.State.{State}
use Rattle.pam_dispatch.specs.declared.step.Outcome.{Outcome}
use Rattle.pam_dispatch.specs.Alike.{IsDenial, fails, looks_at_code, retold, told_status}
use Rattle.pam_dispatch.specs.Runs.{Ask, outcome_of}
use Rattle.pam_dispatch.specs.State.{act, action_of, ignored, left_of, left_unless_positive, perm_denied, state_with, success}

abbrev outcome : State → ℕ → Outcome
outcome s l = record { state = s; left = l }

-- the state after a code counts, where `b` tells whether it becomes the status
abbrev counted : Bool → ℕ → ℕ → State
counted b st c = cond b (state_with Positive c) (state_with Positive st)

accept_positive : (b : Bool) (st c d n : ℕ) →
    outcome (counted b st d) n ≡ cond b (outcome (state_with (counted b st c).impression d) n) (outcome (counted b st c) n)
accept_positive true st c d n = refl
accept_positive false st c d n = refl

done_positive : (b : Bool) (st c d n : ℕ) →
    outcome (counted b st d) (left_unless_positive (counted b st d).impression n)
    ≡ cond b (outcome (state_with (counted b st c).impression d) (left_unless_positive (counted b st c).impression n))
    (outcome (counted b st c) (left_unless_positive (counted b st c).impression n))
done_positive true st c d n = refl
done_positive false st c d n = refl

by_action : (a : Action) (imp : Impression) (st : ℕ) (e : State) (n c d : ℕ) →
    outcome (act a d (state_with imp st) e n) (left_of a d (state_with imp st) n)
    ≡ retold a (state_with imp st) (outcome (act a c (state_with imp st) e n) (left_of a c (state_with imp st) n)) d
by_action Ignore imp st e n c d = refl
by_action Reset imp st e n c d = refl
by_action (Jump items) imp st e n c d = refl
by_action Accept Undef st e n c d = refl
by_action Accept Positive st e n c d = accept_positive (st == success) st c d n
by_action Accept Negative st e n c d = refl
by_action Done Undef st e n c d = refl
by_action Done Positive st e n c d = done_positive (st == success) st c d n
by_action Done Negative st e n c d = refl
by_action Bad Undef st e n c d = refl
by_action Bad Positive st e n c d = refl
by_action Bad Negative st e n c d = refl
by_action Die Undef st e n c d = refl
by_action Die Positive st e n c d = refl
by_action Die Negative st e n c d = refl

pub outcome-retold : (ask : Ask) (known code : ℕ) → action_of ask.control known ≡ action_of ask.control code →
    outcome_of ask code ≡ retold (action_of ask.control code) ask.state (outcome_of ask known) code
unfolding outcome_of
outcome-retold ask known code same =
    let made : Action → Outcome = λ a. outcome (act a known ask.state ask.entry ask.after) (left_of a known ask.state ask.after) in
    by_action (action_of ask.control code) ask.state.impression ask.state.status ask.entry ask.after known code
    ∙ ap (λ (a : Action). retold (action_of ask.control code) ask.state (made a) code) (sym same)

pub outcome-shared : (ask : Ask) (one other : ℕ) → action_of ask.control one ≡ action_of ask.control other →
    looks_at_code (action_of ask.control one) ask.state ≡ false → outcome_of ask one ≡ outcome_of ask other
outcome-shared ask one other same blind =
    let known = outcome_of ask one in
    let told = outcome (state_with known.state.impression (told_status (action_of ask.control other) other)) known.left in
    sym (outcome-retold ask one other same
    ∙ ap (λ (b : Bool). cond b told known)
    (sym (ap (λ (a : Action). looks_at_code a ask.state) same) ∙ blind))

-- THE OUTCOME OF AN ACTION THAT LOOKS AT THE CODE

abbrev told_impression : Action → Impression
told_impression a = cond (fails a) Negative Positive

positive_told : (b : Bool) (st c : ℕ) → b ≡ true → cond b (state_with Positive c) (state_with Positive st) ≡ state_with Positive c
positive_told true st c h = refl
positive_told false st c h = absurd (false≢true h)

told : (a : Action) (imp : Impression) (st : ℕ) (e : State) (n c : ℕ) → looks_at_code a (state_with imp st) ≡ true →
    act a c (state_with imp st) e n ≡ state_with (told_impression a) (told_status a c)
told Ignore imp st e n c h = absurd (false≢true h)
told Reset imp st e n c h = absurd (false≢true h)
told (Jump items) imp st e n c h = absurd (false≢true h)
told Accept Undef st e n c h = refl
told Accept Positive st e n c h = positive_told (st == success) st c h
told Accept Negative st e n c h = absurd (false≢true h)
told Done Undef st e n c h = refl
told Done Positive st e n c h = positive_told (st == success) st c h
told Done Negative st e n c h = absurd (false≢true h)
told Bad Undef st e n c h = refl
told Bad Positive st e n c h = refl
told Bad Negative st e n c h = absurd (false≢true h)
told Die Undef st e n c h = refl
told Die Positive st e n c h = refl
told Die Negative st e n c h = absurd (false≢true h)

-- the two codes with one status
abbrev Denied : ℕ → Type 0
Denied c = (c ≡ perm_denied) ⊎ (c ≡ ignored)

either_denied : (p q : Bool) (c d : ℕ) → (c == ignored) ≡ p → (d == ignored) ≡ q → cond p perm_denied c ≡ cond q perm_denied d → (c ≡ d) ⊎ (Denied c × Denied d)
either_denied true true c d at_c at_d e = inl (eqb-true c ignored at_c ∙ sym (eqb-true d ignored at_d))
either_denied true false c d at_c at_d e = inr (inr (eqb-true c ignored at_c), inl (sym e))
either_denied false true c d at_c at_d e = inr (inl e, inr (eqb-true d ignored at_d))
either_denied false false c d at_c at_d e = inl e

same_status : (f g : Bool) (c d : ℕ) → f ≡ g → cond (f && c == ignored) perm_denied c ≡ cond (g && d == ignored) perm_denied d →
    (c ≡ d) ⊎ ((IsTrue f × Denied c) × (IsTrue g × Denied d))
same_status false false c d same e = inl e
same_status true false c d same e = absurd (false≢true (sym same))
same_status false true c d same e = absurd (false≢true same)
same_status true true c d same e =
    elim (either_denied (c == ignored) (d == ignored) c d refl refl e) [
      | inl one ↦ inl one
      | inr both ↦ inr ((refl, both.0), (refl, both.1))
    ]

different : Negative ≡ Positive → ⊥
different h = cc

same_parts : (f g : Bool) (s t : ℕ) → state_with (cond f Negative Positive) s ≡ state_with (cond g Negative Positive) t → (f ≡ g) × (s ≡ t)
same_parts true true s t h = (refl, ap (λ (x : State). x.status) h)
same_parts false false s t h = (refl, ap (λ (x : State). x.status) h)
same_parts true false s t h = absurd (different (ap (λ (x : State). x.impression) h))
same_parts false true s t h = absurd (different (sym (ap (λ (x : State). x.impression) h)))

pub outcomes-differ : (ask : Ask) (one other : ℕ) → IsTrue (looks_at_code (action_of ask.control one) ask.state) →
    IsTrue (looks_at_code (action_of ask.control other) ask.state) → outcome_of ask one ≡ outcome_of ask other →
    (one ≡ other) ⊎ (IsDenial (action_of ask.control one) one × IsDenial (action_of ask.control other) other)
unfolding outcome_of
outcomes-differ ask one other at_one at_other same =
    let a = action_of ask.control one in
    let b = action_of ask.control other in
    let states = sym (told a ask.state.impression ask.state.status ask.entry ask.after one at_one)
    ∙ ap (λ (o : Outcome). o.state) same
    ∙ told b ask.state.impression ask.state.status ask.entry ask.after other at_other in
    let parts = same_parts (fails a) (fails b) (told_status a one) (told_status b other) states in
    same_status (fails a) (fails b) one other parts.0 parts.1
