-- Places that differ in entry states which no reset can read, and the runs from them on.
use Rattle.std.proofs.Common.{◌≡◌, ℕ, ◌+◌, ◌-◌, ◌<◌, ◌≤◌, Bool, true, false, ◌&&◌, ◌||◌, List, [], ◌∷◌, ◌++◌, eqb, ltb, zero, suc, refl, sym, ◌∙◌, ap}
use Rattle.std.proofs.Common.{arith, cond, drop, get_or, inl, inr, length, map, take}
use Rattle.std.proofs.lemmas.Bool.{and_from, and_parts, cases_lt, cond-false, eq-eqb, eqb-true, le-ltb, ltb-false, ltb-true, or_right}
use Rattle.std.proofs.lemmas.List.{get_or-append_right, get_or-take, get_or_append_left, get_or_past, length-append, length-take}
use Rattle.std.specs.List.{list_any}
use Rattle.pam_codes.specs.declared.action.Action.{Action}
use Rattle.pam_codes.specs.declared.action.Action.TheVariants.{Ignore, Ok, Done, Bad, Die, Reset, Jump}
use Rattle.pam_dispatch.specs.declared.flat_item.FlatItem.{FlatItem}
use Rattle.pam_dispatch.specs.declared.flat_item.FlatItem.TheVariants.{Module, Substack}
use Rattle.pam_dispatch.specs.declared.place.Place.{Place}
use Rattle.pam_dispatch.specs.declared.state.State.{State}
use Rattle.pam_dispatch.specs.declared.step.Outcome.{Outcome}
use Rattle.pam_dispatch.specs.Flat.{level_of, rest_of, resume}
use Rattle.pam_dispatch.specs.Keys.{key_of, rest_at}
use Rattle.pam_dispatch.specs.Representatives.{AreEqualRests, is_read, is_reset, read_states, representative_of}
use Rattle.pam_dispatch.specs.Laws.{EqualRestsAsk, EqualRestsEnd}
use Rattle.pam_dispatch.specs.Runs.{Runs, asked_by, asks, ends, final_state, outcome_of}
use Rattle.pam_dispatch.specs.State.{act, action_of, left_of, start_state}
use Rattle.pam_dispatch.proofs.Places.{asked_with}

-- ONE ANSWER

-- the state after an action depends on the entry state only if it is a reset
act-same : (a : Action) (code : ℕ) (s e f : State) (after : ℕ) → (a ≡ Reset → e ≡ f) → act a code s e after ≡ act a code s f after
act-same Ignore code s e f after h = refl
act-same Ok code s e f after h = refl
act-same Done code s e f after h = refl
act-same Bad code s e f after h = refl
act-same Die code s e f after h = refl
act-same Reset code s e f after h = h refl
act-same (Jump items) code s e f after h = refl

reset-any : (control : List Action) (code : ℕ) → action_of control code ≡ Reset → list_any is_reset control ≡ true
reset-any [] code e = absurd (let k : ⊥ = cc in k)
reset-any (a ∷ control) zero e = rw e refl
reset-any (a ∷ control) (suc code) e = or_right (is_reset a) (list_any is_reset control) (reset-any control code e)

pub outcome-same : (m : ℕ) (control : List Action) (s e f : State) (after : ℕ) → (list_any is_reset control ≡ true → e ≡ f) → (code : ℕ) →
    outcome_of (asked_with m control s e after) code ≡ outcome_of (asked_with m control s f after) code
unfolding outcome_of
outcome-same m control s e f after h code =
    ap (λ (x : State). outcome x (left_of (action_of control code) code s after))
    (act-same (action_of control code) code s e f after (λ r. h (reset-any control code r)))
  where
    outcome : State → ℕ → Outcome
    outcome state left = record { state = state; left = left }

-- ENTRY STATES THAT ARE READ

-- what a later item reads is read before an item that is no earlier end of the list
read-later : (item : FlatItem) (rest : List FlatItem) (level : ℕ) → level ≤ level_of item → is_read level rest ≡ true → is_read level (item ∷ rest) ≡ true
unfolding is_read
read-later item rest level low h =
    cond-false (ltb (level_of item) level) _ _ (le-ltb _ _ low) ∙ or_right _ (is_read level rest) h

read-here : (here m : ℕ) (control : List Action) (after : ℕ) (rest : List FlatItem) → list_any is_reset control ≡ true →
    is_read here (Module here m control after ∷ rest) ≡ true
unfolding is_read
read-here here m control after rest h =
    cond-false (ltb here here) _ _ (le-ltb _ _ (omega arith))
    ∙ ap (λ (b : Bool). b || is_read here rest) (and_from (eqb here here) (list_any is_reset control) (eq-eqb here here refl) h)

-- entry states are the same, up to a level, where they are read
abbrev Agree : List FlatItem → ℕ → List State → List State → Type 0
Agree rest level es fs = (l : ℕ) → l ≤ level → is_read l rest ≡ true → get_or es l start_state ≡ get_or fs l start_state

-- a list is entered: its state is the same
agree-entered : (rest : List FlatItem) (here : ℕ) (es fs : List State) (s : State) → length es ≡ length fs → length es ≤ here + 1 →
    Agree rest here es fs → Agree rest (here + 1) (es ++ s ∷ []) (fs ++ s ∷ [])
agree-entered rest here es fs s long few agree l low read =
    elim (cases_lt l (length es)) [
      | inl k ↦
          get_or_append_left es (s ∷ []) start_state l k ∙ agree l (omega (arith, few, k)) read
          ∙ sym (get_or_append_left fs (s ∷ []) start_state l (omega (arith, long, k)))
      | inr k ↦
          get_or-append_right es (s ∷ []) (length es) l start_state refl k
          ∙ sym (get_or-append_right fs (s ∷ []) (length es) l start_state (sym long) k)
    ]

agree-taken : (rest : List FlatItem) (here : ℕ) (es fs : List State) → Agree rest here es fs → Agree rest here (take (here + 1) es) (take (here + 1) fs)
agree-taken rest here es fs agree l low read =
    get_or-take (here + 1) es l start_state (omega (arith, low)) ∙ agree l low read
    ∙ sym (get_or-take (here + 1) fs l start_state (omega (arith, low)))

length-taken : (d : ℕ) (es fs : List State) → length es ≡ length fs → length (take d es) ≡ length (take d fs)
length-taken d es fs long = length-take d es ∙ omega (arith, long) ∙ sym (length-take d fs)

-- EQUAL RESTS

cond-two : (t : Bool) (a b c d : Runs) → (t ≡ true → AreEqualRests a c) → (t ≡ false → AreEqualRests b d) → AreEqualRests (cond t a b) (cond t c d)
cond-two true a b c d h k = h refl
cond-two false a b c d h k = k refl

-- an item is deeper than the list, or skipped, or met; entry states that are the same for it are so for what follows
equal-item : (item : FlatItem) (rest : List FlatItem) (level skip : ℕ) (es fs : List State) (deeper skipped met deeper' skipped' met' : Runs) →
    Agree (item ∷ rest) level es fs →
    (Agree rest level es fs → AreEqualRests deeper deeper') →
    (Agree rest level es fs → AreEqualRests skipped skipped') →
    (level_of item ≤ level → Agree rest (level_of item) es fs → AreEqualRests met met') →
    AreEqualRests (cond (ltb level (level_of item)) deeper (cond (eqb (level_of item) level && ltb 0 skip) skipped met))
    (cond (ltb level (level_of item)) deeper' (cond (eqb (level_of item) level && ltb 0 skip) skipped' met'))
equal-item item rest level skip es fs deeper skipped met deeper' skipped' met' agree at_deeper at_skipped at_met =
    let here = level_of item in
    cond-two (ltb level here) _ _ _ _
    (λ t. let above : level < here = ltb-true level here t in
    at_deeper (λ l low read. agree l low (read-later item rest l (omega (arith, low, above)) read)))
    (λ f. let below : here ≤ level = ltb-false level here f in
    cond-two (eqb here level && ltb 0 skip) _ _ _ _
    (λ t. let same : here ≡ level = eqb-true here level (and_parts (eqb here level) (ltb 0 skip) t).0 in
    at_skipped (λ l low read. agree l low (read-later item rest l (omega (arith, low, same)) read)))
    (λ g. at_met below (λ l low read. agree l (omega (arith, low, below)) (read-later item rest l low read))))

equal : (ts : List FlatItem) (level skip : ℕ) (es fs : List State) (s : State) → length es ≡ length fs → Agree ts level es fs →
    AreEqualRests (resume ts level skip es s) (resume ts level skip fs s)
unfolding resume AreEqualRests
equal [] level skip es fs s long agree = refl
equal (Module here m control after ∷ ts) level skip es fs s long agree =
    equal-item (Module here m control after) ts level skip es fs _ _ _ _ _ _ agree
    (equal ts level skip es fs s long)
    (equal ts level (skip - 1) es fs s long)
    (λ below later. (
      refl,
      refl,
      outcome-same m control s (get_or es here start_state) (get_or fs here start_state) after (λ r. agree here below (read-here here m control after ts r)),
      λ o. equal ts here (after - o.left) (take (here + 1) es) (take (here + 1) fs) o.state (length-taken (here + 1) es fs long)
          (agree-taken ts here es fs later),
    ))
equal (Substack here ∷ ts) level skip es fs s long agree =
    equal-item (Substack here) ts level skip es fs _ _ _ _ _ _ agree
    (equal ts level skip es fs s long)
    (equal ts level (skip - 1) es fs s long)
    (λ below later. let taken = length-taken (here + 1) es fs long in
    let few : length (take (here + 1) es) ≤ here + 1 = omega (arith, length-take (here + 1) es) in
    equal ts (here + 1) 0 (take (here + 1) es ++ s ∷ []) (take (here + 1) fs ++ s ∷ []) s
    (length-append (take (here + 1) es) (s ∷ []) ∙ omega (arith, taken) ∙ sym (length-append (take (here + 1) fs) (s ∷ [])))
    (agree-entered ts here (take (here + 1) es) (take (here + 1) fs) s taken few (agree-taken ts here es fs later)))

-- THE REPRESENTATIVE

pub length-read_states : (level : ℕ) (rest : List FlatItem) (states : List State) → length (read_states level rest states) ≡ length states
unfolding read_states
length-read_states level rest [] = refl
length-read_states level rest (s ∷ states) = ap suc (length-read_states (level + 1) rest states)

-- the entry state of each list
pub read_states-at : (level : ℕ) (rest : List FlatItem) (states : List State) (l : ℕ) → l < length states →
    get_or (read_states level rest states) l start_state ≡ cond (is_read (level + l) rest) (get_or states l start_state) start_state
unfolding read_states
read_states-at level rest [] l h = absurd (omega arith)
read_states-at level rest (s ∷ states) zero h = ap (λ (n : ℕ). cond (is_read n rest) s start_state) (omega arith)
read_states-at level rest (s ∷ states) (suc l) h =
    read_states-at (level + 1) rest states l (omega arith)
    ∙ ap (λ (n : ℕ). cond (is_read n rest) (get_or states l start_state) start_state) (omega arith)

read-agree : (rest : List FlatItem) (level d : ℕ) (states : List State) → Agree rest level (take d (read_states 0 rest states)) (take d states)
read-agree rest level d states l low read =
    let long = length-read_states 0 rest states in
    elim (cases_lt l d) [
      | inl k ↦
          get_or-take d (read_states 0 rest states) l start_state k
          ∙ elim (cases_lt l (length states)) [
            | inl m ↦
                read_states-at 0 rest states l m
                ∙ ap (λ (b : Bool). cond b (get_or states l start_state) start_state) (ap (λ n. is_read n rest) (omega arith) ∙ read)
            | inr m ↦ get_or_past (read_states 0 rest states) l start_state (omega (arith, long, m)) ∙ sym (get_or_past states l start_state m)
          ]
          ∙ sym (get_or-take d states l start_state k)
      | inr k ↦
          get_or_past (take d (read_states 0 rest states)) l start_state (omega (arith, length-take d (read_states 0 rest states), k))
          ∙ sym (get_or_past (take d states) l start_state (omega (arith, length-take d states, k)))
    ]

-- the key of the representative has an equal rest
pub representative-rests : (program : List FlatItem) (place : Place) →
    AreEqualRests (rest_at program (key_of (representative_of program place))) (rest_of program place)
unfolding rest_at key_of rest_of representative_of
representative-rests program place =
    let rest = drop place.position program in
    let states = place.entered.states in
    equal rest place.depth 0 (take place.depth (read_states 0 rest states)) (take place.depth states) place.state
    (length-taken place.depth (read_states 0 rest states) states (length-read_states 0 rest states))
    (read-agree rest place.depth place.depth states)

-- states of which the first `count` are the same at each level
pub taken_states-by : (rest : List FlatItem) (count : ℕ) (states kept : List State) → length kept ≡ length states →
    ((l : ℕ) → l < count → l < length states → get_or kept l start_state ≡ cond (is_read l rest) (get_or states l start_state) start_state) →
    take count kept ≡ take count (read_states 0 rest states)
unfolding read_states
taken_states-by rest count states kept long h =
    from 0 count states kept long (λ l few k. h l few k ∙ ap (λ (n : ℕ). cond (is_read n rest) (get_or states l start_state) start_state) (omega arith))
  where
    from : (level count : ℕ) (states kept : List State) → length kept ≡ length states →
        ((l : ℕ) → l < count → l < length states →
        get_or kept l start_state ≡ cond (is_read (level + l) rest) (get_or states l start_state) start_state) →
        take count kept ≡ take count (read_states level rest states)
    from level zero states kept long h = refl
    from level (suc count) [] [] long h = refl
    from level (suc count) [] (k ∷ kept) long h = absurd (omega (arith, long))
    from level (suc count) (s ∷ states) [] long h = absurd (omega (arith, long))
    from level (suc count) (s ∷ states) (k ∷ kept) long h =
        ap (λ (x : State). x ∷ take count kept)
        (h 0 (omega arith) (omega arith) ∙ ap (λ (n : ℕ). cond (is_read n rest) s start_state) (omega arith))
        ∙ ap (λ (xs : List State). cond (is_read level rest) s start_state ∷ xs)
        (from (level + 1) count states kept (omega (arith, long)) (λ l few m. h (suc l) (omega (arith, few)) (omega (arith, m))
        ∙ ap (λ (n : ℕ). cond (is_read n rest) (get_or states l start_state) start_state) (omega arith)))

-- WHAT EQUAL RESTS ASK AND WHERE THEY END

pub equal-end : EqualRestsEnd
unfolding AreEqualRests final_state
equal-end (ends s) (ends t) answers h = h
equal-end (ends s) (asks ask next) answers h = absurd h
equal-end (asks ask next) (ends t) answers h = absurd h
equal-end (asks ask next) (asks other later) answers h =
    ap (λ (n : ℕ). final_state (next (outcome_of ask (answers n))) answers) h.0
    ∙ ap (λ (o : Outcome). final_state (next o) answers) (h.2 (answers other.module_number))
    ∙ equal-end (next (outcome_of other (answers other.module_number))) (later (outcome_of other (answers other.module_number))) answers
    (h.3 (outcome_of other (answers other.module_number)))

pub equal-ask : EqualRestsAsk
unfolding AreEqualRests asked_by
equal-ask (ends s) (ends t) answers h = refl
equal-ask (ends s) (asks ask next) answers h = absurd h
equal-ask (asks ask next) (ends t) answers h = absurd h
equal-ask (asks ask next) (asks other later) answers h =
    ap (λ (n : ℕ). ask.module_number ∷ numbers (next (outcome_of ask (answers n)))) h.0
    ∙ ap (λ (o : Outcome). ask.module_number ∷ numbers (next o)) (h.2 (answers other.module_number))
    ∙ ap (λ (ns : List ℕ). ask.module_number ∷ ns)
    (equal-ask (next (outcome_of other (answers other.module_number))) (later (outcome_of other (answers other.module_number))) answers
    (h.3 (outcome_of other (answers other.module_number))))
    ∙ ap (λ (n : ℕ). n ∷ numbers (later (outcome_of other (answers other.module_number)))) h.0
  where
    numbers : Runs → List ℕ
    numbers runs = map (λ a. a.module_number) (asked_by runs answers)
