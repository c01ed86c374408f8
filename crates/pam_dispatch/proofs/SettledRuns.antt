-- The last modules of a failed stack, none of which can change that.
use Rattle.std.proofs.Common.{◌≡◌, ℕ, ◌+◌, ◌-◌, ◌<◌, ◌≤◌, List, [], ◌∷◌, zero, suc, refl, sym}
use Rattle.std.proofs.Common.{◌∙◌, ap, subst, arith, length, get_or, map, take, drop, length-drop, Option, None, Some, false}
use Rattle.std.specs.Prelude.{IsTrue}
use Rattle.std.specs.List.{range_with_len}
use Rattle.std.specs.Option.{is_some}
use Rattle.std.proofs.lemmas.Bool.{false≢true}
use Rattle.std.proofs.lemmas.List.{drop-drop, drop_all}
use Rattle.pam_codes.specs.declared.action.Action.{Action}
use Rattle.pam_codes.specs.declared.action.Action.TheVariants.{Ignore, Ok, Done, Bad, Die, Reset, Jump}
use Rattle.pam_dispatch.specs.declared.flat_item.FlatItem.{FlatItem}
use Rattle.pam_dispatch.specs.declared.flat_item.FlatItem.TheVariants.{Module, Substack}
use Rattle.pam_dispatch.specs.declared.place.Place.{Place}
use Rattle.pam_dispatch.specs.declared.state.Impression.{Impression}
use Rattle.pam_dispatch.specs.declared.state.Impression.TheVariants.{Negative}
use Rattle.pam_dispatch.specs.declared.state.State.{State}
use Rattle.pam_dispatch.specs.declared.step.Outcome.{Outcome}
use Rattle.pam_dispatch.specs.Flat.{IsPlaceOf, controls_in, modules_of, resume, rest_of}
use Rattle.pam_dispatch.specs.inner.Flat.{IsNumbered}
use Rattle.pam_dispatch.specs.Laws.{AnswerCodes, SettledAsks, SettledEnds}
use Rattle.pam_dispatch.specs.Runs.{Ask, Assignment, Runs, ends, asks, asked_by, asked_module, final_state, outcome_of, state_in}
use Rattle.pam_dispatch.specs.State.{act, action_of, left_of, start_state, state_with}
use Rattle.pam_dispatch.specs.Settled.{IsSettled, keeps_failure, unchanged}
use Rattle.pam_dispatch.specs.inner.Settled.{KeepFailure}
use Rattle.pam_dispatch.proofs.Places.{place_state}
use Rattle.pam_dispatch.proofs.Resume.{ask_at, resume-module}

-- the outcome of an action for a code
outcome_by : Action → ℕ → State → State → ℕ → Outcome
outcome_by a code s entry after = record { state = act a code s entry after; left = left_of a code s after }

failure-kept : (a : Action) (code status : ℕ) (entry : State) (after : ℕ) → IsTrue (keeps_failure a) →
    outcome_by a code (state_with Negative status) entry after ≡ record { state = state_with Negative status; left = after }
unfolding outcome_by
failure-kept Ignore code status entry after k = refl
failure-kept Ok code status entry after k = refl
failure-kept Done code status entry after k = refl
failure-kept Bad code status entry after k = refl
failure-kept Die code status entry after k = absurd (let x : ⊥ = cc in x)
failure-kept Reset code status entry after k = absurd (let x : ⊥ = cc in x)
failure-kept (Jump items) code status entry after k = absurd (let x : ⊥ = cc in x)

-- if the stack has failed, a code whose action keeps that leaves the run as it is
pub failed-outcome : (ask : Ask) (code : ℕ) → ask.state.impression ≡ Negative → IsTrue (keeps_failure (action_of ask.control code)) →
    outcome_of ask code ≡ unchanged ask ask.state
unfolding outcome_of outcome_by
failed-outcome ask code negative k =
    let a = action_of ask.control code in
    subst (λ (i : Impression). outcome_by a code (state_with i ask.state.status) ask.entry ask.after
    ≡ record { state = state_with i ask.state.status; left = ask.after }) (sym negative) (failure-kept a code ask.state.status ask.entry ask.after k)

-- their run is settled
settled-ask : (here number : ℕ) (control : List Action) (after : ℕ) (rest : List FlatItem) (before : ℕ) (es : List State) (s : State) →
    ((code : ℕ) → code < 31 → IsTrue (keeps_failure (action_of control code))) → number ≡ before + 1 → s.impression ≡ Negative →
    IsSettled (before + 1 + 1) (length rest) s (resume rest here 0 (take (here + 1) es) s) →
    IsSettled (before + 1) (suc (length rest)) s (ask_at here number control after rest es s)
unfolding ask_at IsSettled
settled-ask here number control after rest before es s kept at negative again =
    let ask : Ask = record { module_number = number; control = control; state = s; entry = get_or es here start_state; after = after } in
    let none : after - after ≡ 0 = omega arith in
    let fewer : suc (length rest) - 1 ≡ length rest = omega arith in (
      omega arith,
      at,
      λ code low. failed-outcome ask code negative (kept code low),
      subst (λ (count : ℕ). IsSettled (before + 1 + 1) count s (resume rest here (after - after) (take (here + 1) es) s)) (sym fewer)
          (subst (λ (skip : ℕ). IsSettled (before + 1 + 1) (length rest) s (resume rest here skip (take (here + 1) es) s)) (sym none) again),
    )

settled-resume : (ts : List FlatItem) (before level : ℕ) (es : List State) (s : State) → KeepFailure ts → IsNumbered before ts → s.impression ≡ Negative →
    IsSettled (before + 1) (length ts) s (resume ts level 0 es s)
unfolding KeepFailure IsNumbered IsSettled resume
settled-resume [] before level es s kept numbered negative = (refl, refl)
settled-resume (Module here number control after ∷ rest) before level es s kept numbered negative =
    let again = settled-resume rest (before + 1) here (take (here + 1) es) s kept.2 numbered.1 negative in
    let asks = resume-module here number control after rest level 0 es s (omega (arith, kept.0)) (λ e l. omega arith) in
    subst (λ (r : Runs). IsSettled (before + 1) (suc (length rest)) s r) (sym asks)
    (settled-ask here number control after rest before es s kept.1 numbered.0 negative again)
settled-resume (Substack here ∷ rest) before level es s kept numbered negative = absurd kept

-- the items are modules
kept-modules : (ts : List FlatItem) → KeepFailure ts → modules_of ts ≡ length ts
unfolding KeepFailure controls_in
kept-modules [] kept = refl
kept-modules (Module level number control after ∷ rest) kept = ap suc (kept-modules rest kept.2)
kept-modules (Substack level ∷ rest) kept = absurd kept

kept-drop : (ts : List FlatItem) (n : ℕ) → KeepFailure ts → KeepFailure (drop n ts)
unfolding KeepFailure
kept-drop ts zero kept = kept
kept-drop [] (suc n) kept = kept
kept-drop (Module level number control after ∷ rest) (suc n) kept = kept-drop rest n kept.2
kept-drop (Substack level ∷ rest) (suc n) kept = absurd kept

-- the items from a position on are numbered from some number on
numbered-drop : (ts : List FlatItem) (before n : ℕ) → IsNumbered before ts →
    (low : ℕ) × IsNumbered low (drop n ts) × (low + modules_of (drop n ts) ≡ before + modules_of ts)
unfolding IsNumbered controls_in
numbered-drop ts before zero numbered = (before, numbered, refl)
numbered-drop [] before (suc n) numbered = (before, tt, refl)
numbered-drop (Module level number control after ∷ rest) before (suc n) numbered =
    let again = numbered-drop rest (before + 1) n numbered.1 in (again.0, again.1, omega (arith, again.2))
numbered-drop (Substack level ∷ rest) before (suc n) numbered = numbered-drop rest before n numbered

-- THE REST OF A FAILED RUN, from a place past the last item that could change it

pub record IsRest (program : List FlatItem) (place : Place) (count : ℕ) : Type 0 where
  pub settled : IsSettled (modules_of program + 1 - count) count (state_in (rest_of program place)) (rest_of program place)
  pub within : count ≤ modules_of program

module _ (program : List FlatItem) (tail : ℕ) (numbered : IsNumbered 0 program) (kept : KeepFailure (drop tail program))
    (place : Place) (valid : IsPlaceOf program place) (past : tail ≤ place.position) where
  kept-from : KeepFailure (drop place.position program)
  kept-from =
      let far : tail + (place.position - tail) ≡ place.position = omega arith in
      subst KeepFailure (drop-drop (place.position - tail) tail program ∙ ap (λ (n : ℕ). drop n program) far)
      (kept-drop (drop tail program) (place.position - tail) kept)

  pub rest-settled : (count : ℕ) → count ≡ length program - place.position → place.state.impression ≡ Negative → IsRest program place count
  unfolding rest_of
  rest-settled count is negative =
      let left = drop place.position program in
      let from = numbered-drop program 0 place.position numbered in
      let all : count ≡ length left = omega (arith, is, length-drop place.position program) in
      let first : modules_of program + 1 - count ≡ from.0 + 1 = omega (arith, from.2, kept-modules left kept-from, all) in
      record {
        settled = rw (first, all, ← (place_state program place valid))
            (settled-resume left from.0 place.depth (take place.depth place.entered.states) place.state kept-from from.1 negative);
        within = omega (arith, from.2, kept-modules left kept-from, all);
      }

-- at the end nothing is asked
pub settled-end : (first : ℕ) (runs : Runs) → asked_module runs ≡ None → IsSettled first 0 (state_in runs) runs
unfolding IsSettled
settled-end first (ends s) e = (refl, refl)
settled-end first (asks ask next) e = absurd (let x : ⊥ = cc in x)

-- ---- the runs of a settled run

-- the first of these modules answers with a code, and so do the others
code_asked : (first count : ℕ) (ask : Ask) (answers : Assignment) → 0 < count → ask.module_number ≡ first → AnswerCodes first count answers →
    answers ask.module_number < 31
code_asked first count ask answers some is codes = codes ask.module_number (omega (arith, is)) (omega (arith, is, some))

codes_left : (first count : ℕ) (answers : Assignment) → AnswerCodes first count answers → AnswerCodes (first + 1) (count - 1) answers
codes_left first count answers codes number low high = codes number (omega (arith, low)) (omega (arith, high))

pub settled-asks : SettledAsks
unfolding IsSettled asked_by
settled-asks first count s (ends t) answers h codes = ap (range_with_len first) (sym h.0)
settled-asks first zero s (asks ask next) answers h codes = absurd (omega (arith, h.0))
settled-asks first (suc count) s (asks ask next) answers h codes =
    let fewer : suc count - 1 ≡ count = omega arith in
    let again : IsSettled (first + 1) count s (next (unchanged ask s)) = rw fewer at h.3 in
    let others : AnswerCodes (first + 1) count answers =
    subst (λ (n : ℕ). AnswerCodes (first + 1) n answers) fewer (codes_left first (suc count) answers codes) in
    let same : outcome_of ask (answers ask.module_number) ≡ unchanged ask s =
    h.2 (answers ask.module_number) (code_asked first (suc count) ask answers h.0 h.1 codes) in
    ap (λ (o : Outcome). ask.module_number ∷ map (λ (a : Ask). a.module_number) (asked_by (next o) answers)) same
    ∙ ap (λ (l : List ℕ). ask.module_number ∷ l) (settled-asks (first + 1) count s (next (unchanged ask s)) answers again others)
    ∙ ap (λ (n : ℕ). n ∷ range_with_len (first + 1) count) h.1

pub settled-ends : SettledEnds
unfolding IsSettled final_state
settled-ends first count s (ends t) answers h codes = h.1
settled-ends first count s (asks ask next) answers h codes =
    let same : outcome_of ask (answers ask.module_number) ≡ unchanged ask s =
    h.2 (answers ask.module_number) (code_asked first count ask answers h.0 h.1 codes) in
    ap (λ (o : Outcome). final_state (next o) answers) same
    ∙ settled-ends (first + 1) (count - 1) s (next (unchanged ask s)) answers h.3 (codes_left first count answers codes)

pub none-asked : (o : Option ℕ) → is_some o ≡ false → o ≡ None
none-asked None e = refl
none-asked (Some n) e = absurd (false≢true (sym e))

-- ---- the items so far

pub none-kept : (ts : List FlatItem) → KeepFailure (drop (length ts) ts)
unfolding KeepFailure
none-kept ts = subst KeepFailure (sym (drop_all (length ts) ts (omega arith))) tt

pub one-kept : (e : FlatItem) (rest : List FlatItem) → KeepFailure (e ∷ []) → KeepFailure rest → KeepFailure (e ∷ rest)
unfolding KeepFailure
one-kept (Module level number control after) rest here more = (here.0, here.1, more)
one-kept (Substack level) rest here more = absurd here
