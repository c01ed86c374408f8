-- A module has the same classes in all situations with one representative.
use Rattle.std.proofs.Common.{◌≡◌, ◌==◌, ◌&&◌, Bool, true, false, arith, cond, eqb, refl, ℕ, List, ap, nat_le, sym, ◌∙◌}
use Rattle.std.specs.List.{list_any}
use Rattle.std.proofs.lemmas.Bool.{eqb-true, false≢true}
use Rattle.pam_codes.specs.Set.{codes_where}
use Rattle.pam_codes.specs.inner.SetBits.{codes_where-same}
use Rattle.pam_codes.specs.declared.action.Action.{Action}
use Rattle.pam_codes.specs.declared.action.Action.TheVariants.{Ignore, Ok, Done, Bad, Die, Reset, Jump}
use Rattle.pam_dispatch.specs.declared.asked.Situation.{Situation}
use Rattle.pam_dispatch.specs.declared.state.Impression.{Impression}
use Rattle.pam_dispatch.specs.declared.state.Impression.TheVariants.{Undef, Positive, Negative}
use Rattle.pam_dispatch.specs.declared.state.State.{State}
use Rattle.pam_dispatch.specs.declared.step.Outcome.{Outcome}
use Rattle.pam_dispatch.specs.Runs.{Ask, outcome_of, situation_of}
use Rattle.pam_dispatch.specs.Situations.{entry_told, representative, status_told}
use Rattle.pam_dispatch.specs.State.{act, action_of, impression_number, left_of, perm_denied, start_state, state_with, success}
use Rattle.pam_dispatch.proofs.EqualRests.{outcome-same}
use Rattle.pam_dispatch.proofs.Places.{asked_with}
use Rattle.pam_paths.specs.declared.classes.Classes.{Classes}
use Rattle.pam_paths.specs.Cached.{has_reset}
use Rattle.pam_paths.specs.Classes.{class_at, class_of, least, same_outcome}
use Rattle.pam_paths.specs.Computed.{is_offered}
use Rattle.pam_paths.specs.Frames.{AreClasses}
use Rattle.pam_paths.specs.Listing.{Allowance}

-- where the state after an answer comes from, once the stack has failed: it stays, it is that of the list's entry, or it
-- is that after a jump past the end
data Source : Type 0 where
  own : Source
  entered : Source
  denied : Source

abbrev jump_source : Bool → Source
jump_source true = own
jump_source false = denied

abbrev source : Action → ℕ → Source
source Ignore after = own
source Ok after = own
source Done after = own
source Bad after = own
source Die after = own
source Reset after = entered
source (Jump items) after = jump_source (nat_le items after)

abbrev state_from : ℕ → State → Source → State
state_from status entry own = state_with Negative status
state_from status entry entered = entry
state_from status entry denied = state_with Negative perm_denied

jump-from : (status : ℕ) (entry : State) (fits : Bool) →
    cond fits (state_with Negative status) (state_with Negative perm_denied) ≡ state_from status entry (jump_source fits)
jump-from status entry true = refl
jump-from status entry false = refl

state-told : (action : Action) (code status : ℕ) (entry : State) (after : ℕ) →
    act action code (state_with Negative status) entry after ≡ state_from status entry (source action after)
state-told Ignore code status entry after = refl
state-told Ok code status entry after = refl
state-told Done code status entry after = refl
state-told Bad code status entry after = refl
state-told Die code status entry after = refl
state-told Reset code status entry after = refl
state-told (Jump items) code status entry after = jump-from status entry (nat_le items after)

left-same : (action : Action) (code status : ℕ) (after : ℕ) →
    left_of action code (state_with Negative status) after ≡ left_of action code (state_with Negative success) after
left-same Ignore code status after = refl
left-same Ok code status after = refl
left-same Done code status after = refl
left-same Bad code status after = refl
left-same Die code status after = refl
left-same Reset code status after = refl
left-same (Jump items) code status after = refl

abbrev outcome : State → ℕ → Outcome
outcome s left = record { state = s; left = left }

self : (n : ℕ) → eqb n n ≡ true
self n = grind arith

abbrev ask_of : ℕ → List Action → Impression → ℕ → State → ℕ → Ask
ask_of number control impression status entry after = record {
  module_number = number;
  control = control;
  state = state_with impression status;
  entry = entry;
  after = after;
}

-- a status other than perm_denied tells the sources apart as success does, if the list was not entered after a failure
module _ (entry : State) (status : ℕ) (before : eqb 2 (impression_number entry.impression) ≡ false)
    (after_it : eqb (impression_number entry.impression) 2 ≡ false) (other : eqb status 6 ≡ false) where
  flipped : eqb 6 status ≡ false
  flipped = grind (arith, other)

  sources-alike : (x y : Source) (left more : ℕ) →
      same_outcome (outcome (state_from status entry x) left) (outcome (state_from status entry y) more)
      ≡ same_outcome (outcome (state_from success entry x) left) (outcome (state_from success entry y) more)
  unfolding same_outcome
  sources-alike own own left more = rw (self status) refl
  sources-alike own entered left more = rw before refl
  sources-alike own denied left more = rw other refl
  sources-alike entered own left more = rw after_it refl
  sources-alike entered entered left more = refl
  sources-alike entered denied left more = refl
  sources-alike denied own left more = rw flipped refl
  sources-alike denied entered left more = refl
  sources-alike denied denied left more = refl

  of-told : (x : Action) (c after : ℕ) (s : ℕ) →
      outcome (act x c (state_with Negative s) entry after) (left_of x c (state_with Negative s) after)
      ≡ outcome (state_from s entry (source x after)) (left_of x c (state_with Negative success) after)
  of-told x c after s =
      ap (λ (t : State). outcome t (left_of x c (state_with Negative s) after)) (state-told x c s entry after)
      ∙ ap (outcome (state_from s entry (source x after))) (left-same x c s after)

  outcomes-alike : (number : ℕ) (control : List Action) (after c d : ℕ) →
      same_outcome (outcome_of (ask_of number control Negative status entry after) c) (outcome_of (ask_of number control Negative status entry after) d)
      ≡ same_outcome (outcome_of (ask_of number control Negative success entry after) c)
      (outcome_of (ask_of number control Negative success entry after) d)
  unfolding outcome_of
  outcomes-alike number control after c d =
      let x = action_of control c in
      let y = action_of control d in
      let l = left_of x c (state_with Negative success) after in
      let m = left_of y d (state_with Negative success) after in
      ap (λ (o : Outcome). same_outcome o (outcome (act y d (state_with Negative status) entry after) (left_of y d (state_with Negative status) after)))
      (of-told x c after status)
      ∙ ap (same_outcome (outcome (state_from status entry (source x after)) l)) (of-told y d after status)
      ∙ sources-alike (source x after) (source y after) l m
      ∙ sym (ap (same_outcome (outcome (state_from success entry (source x after)) l)) (of-told y d after success))
      ∙ sym (ap (λ (o : Outcome). same_outcome o
      (outcome (act y d (state_with Negative success) entry after) (left_of y d (state_with Negative success) after)))
      (of-told x c after success))

-- a representative has itself as its representative, also without the entry state
abbrev told : Bool → ℕ
told is_denied = cond is_denied perm_denied success

told-once : (is_denied : Bool) → told (eqb (told is_denied) perm_denied) ≡ told is_denied
told-once true = refl
told-once false = refl

status-twice : (resets : Bool) (impression entered_in : Impression) (entered_with status : ℕ) →
    status_told impression (entry_told resets (state_with entered_in entered_with)).impression (status_told impression entered_in status)
    ≡ status_told impression (entry_told resets (state_with entered_in entered_with)).impression status
status-twice resets Undef entered_in entered_with status = refl
status-twice resets Positive entered_in entered_with status = refl
status-twice true Negative Undef entered_with status = told-once (eqb status 6)
status-twice true Negative Positive entered_with status = told-once (eqb status 6)
status-twice true Negative Negative entered_with status = refl
status-twice false Negative Undef entered_with status = told-once (eqb status 6)
status-twice false Negative Positive entered_with status = told-once (eqb status 6)
status-twice false Negative Negative entered_with status = refl

abbrev with-status : Bool → Situation → ℕ → Situation
with-status resets s status = record { state = state_with s.state.impression status; entry = entry_told resets s.entry; items_after = s.items_after }

pub represented : (resets : Bool) (s : Situation) → representative resets (representative true s) ≡ representative resets s
represented resets s =
    ap (with-status resets s) (status-twice resets s.state.impression s.entry.impression s.entry.status s.state.status)

abbrev same_of : Ask → ℕ → ℕ → Bool
same_of ask c d = same_outcome (outcome_of ask c) (outcome_of ask d)

-- the module as it is asked in the situation that represents its own, by whether its control has the action reset
abbrev pub normal : Bool → Ask → Ask
normal resets ask = record {
  module_number = ask.module_number;
  control = ask.control;
  state = (representative resets (situation_of ask)).state;
  entry = (representative resets (situation_of ask)).entry;
  after = ask.after;
}

failed-alike : (number : ℕ) (control : List Action) (entry : State) (after c d status : ℕ) →
    eqb 2 (impression_number entry.impression) ≡ false → eqb (impression_number entry.impression) 2 ≡ false →
    same_of (ask_of number control Negative (cond (eqb status 6) 6 0) entry after) c d
    ≡ same_of (ask_of number control Negative status entry after) c d
failed-alike number control entry after c d status before after_it =
    elim (eqb status 6) as (λ (t : Bool). eqb status 6 ≡ t →
    same_of (ask_of number control Negative (cond t 6 0) entry after) c d ≡ same_of (ask_of number control Negative status entry after) c d) [
      | true ↦ λ e. ap (λ (s : ℕ). same_of (ask_of number control Negative s entry after) c d) (sym (eqb-true status 6 e))
      | false ↦ λ e. sym (outcomes-alike entry status before after_it e number control after c d)
    ] refl

told-alike : (number : ℕ) (control : List Action) (impression : Impression) (status : ℕ) (entered_in : Impression) (entered_with after c d : ℕ) →
    same_of (normal true (ask_of number control impression status (state_with entered_in entered_with) after)) c d
    ≡ same_of (ask_of number control impression status (state_with entered_in entered_with) after) c d
told-alike number control Undef status entered_in entered_with after c d = refl
told-alike number control Positive status entered_in entered_with after c d = refl
told-alike number control Negative status Negative entered_with after c d = refl
told-alike number control Negative status Undef entered_with after c d =
    failed-alike number control (state_with Undef entered_with) after c d status refl refl
told-alike number control Negative status Positive entered_with after c d =
    failed-alike number control (state_with Positive entered_with) after c d status refl refl

class-told : (ask : Ask) (code : ℕ) → class_of (normal true ask) code ≡ class_of ask code
unfolding class_at
class-told ask code =
    codes_where-same (λ d. same_of (normal true ask) code d) (λ d. same_of ask code d) (λ d low.
    told-alike ask.module_number ask.control ask.state.impression ask.state.status ask.entry.impression ask.entry.status ask.after code d)

-- the module as it is asked where its list was entered in the state in which a run begins
abbrev at_start : Ask → Ask
at_start ask = asked_with ask.module_number ask.control ask.state start_state ask.after

class-at_start : (ask : Ask) (code : ℕ) → false ≡ has_reset ask → class_of (at_start ask) code ≡ class_of ask code
unfolding class_at
class-at_start ask code none =
    let same : (c : ℕ) → outcome_of (at_start ask) c ≡ outcome_of ask c =
    outcome-same ask.module_number ask.control ask.state start_state ask.entry ask.after (λ some. absurd (false≢true (none ∙ some))) in
    codes_where-same (λ d. same_of (at_start ask) code d) (λ d. same_of ask code d) (λ d low.
    ap (λ (o : Outcome). same_outcome o (outcome_of (at_start ask) d)) (same code) ∙ ap (same_outcome (outcome_of ask code)) (same d))

pub same-class : (resets : Bool) (ask : Ask) (code : ℕ) → resets ≡ has_reset ask → class_of (normal resets ask) code ≡ class_of ask code
same-class true ask code is = class-told ask code
same-class false ask code is = class-told (at_start ask) code ∙ class-at_start ask code is

module _ (resets : Bool) (ask : Ask) (is : resets ≡ has_reset ask) where
  pub same-offered : (allows : Allowance) → codes_where (is_offered allows (normal resets ask)) ≡ codes_where (is_offered allows ask)
  unfolding is_offered
  same-offered allows =
      codes_where-same (is_offered allows (normal resets ask)) (is_offered allows ask) (λ d low.
      ap (λ (class : List ℕ). (least class == d) && list_any (allows ask.module_number) class) (same-class resets ask d is))

  pub to-normal : (classes : Classes) → AreClasses ask classes → AreClasses (normal resets ask) classes
  to-normal classes are = record {
    alone = λ code low no. same-class resets ask code is ∙ are.alone code low no;
    whole = λ code low yes. same-class resets ask code is ∙ are.whole code low yes;
    earlier = λ code low yes. same-class resets ask code is ∙ are.earlier code low yes;
  }

  pub from-normal : (classes : Classes) → AreClasses (normal resets ask) classes → AreClasses ask classes
  from-normal classes are = record {
    alone = λ code low no. sym (same-class resets ask code is) ∙ are.alone code low no;
    whole = λ code low yes. sym (same-class resets ask code is) ∙ are.whole code low yes;
    earlier = λ code low yes. sym (same-class resets ask code is) ∙ are.earlier code low yes;
  }
