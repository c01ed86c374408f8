-- The end of a path on which the answers no longer matter.
use Rattle.std.proofs.Common.{◌≡◌, ◌≢◌, ℕ, ◌+◌, ◌-◌, ◌<◌, ◌≤◌, true, false, List, [], ◌∷◌, ◌++◌, zero, suc, refl, sym, ◌∙◌, ap}
use Rattle.std.proofs.Common.{arith, append-nil, drop, length, length-append, length-drop, map, reverse, take}
use Rattle.std.specs.Prelude.{◌==◌}
use Rattle.std.specs.List.{list_any}
use Rattle.std.proofs.Math.Seq.{drop-append_seam, take-nil}
use Rattle.std.proofs.lemmas.Bool.{and_left, ne_eqb}
use Rattle.std.proofs.lemmas.List.{drop-map, drop_all, length-map, map-append, take-map, take_all, take_at}
use Rattle.pam_codes.specs.Code.{all_codes}
use Rattle.pam_codes.specs.inner.SetBits.{codes_where-same}
use Rattle.pam_dispatch.specs.declared.flat_item.FlatItem.{FlatItem}
use Rattle.pam_dispatch.specs.declared.state.State.{State}
use Rattle.pam_dispatch.specs.declared.step.Outcome.{Outcome}
use Rattle.pam_dispatch.specs.declared.settled.SettledRun.{SettledRun}
use Rattle.pam_dispatch.specs.Decision.{decision_of}
use Rattle.pam_dispatch.specs.Flat.{modules_of}
use Rattle.pam_dispatch.specs.Runs.{Ask, AsksRise, Runs, asks, ends, outcome_of, state_in}
use Rattle.pam_dispatch.specs.Settled.{IsSettled, unchanged}
use Rattle.pam_paths.specs.declared.direction.Direction.{Direction}
use Rattle.pam_paths.specs.declared.direction.Direction.TheVariants.{Forward, Backward}
use Rattle.pam_paths.specs.declared.frames.Frame.{Frame}
use Rattle.pam_paths.specs.declared.path.PathStep.{PathStep}
use Rattle.pam_paths.specs.Classes.{class_at, class_of, least, same_outcome}
use Rattle.pam_paths.specs.Computed.{after_step, after_steps, branches, is_offered, listing}
use Rattle.pam_paths.specs.Directions.{ordered}
use Rattle.pam_paths.specs.Frames.{ahead, coming, step_in}
use Rattle.pam_paths.specs.inner.Frames.{AreFirstSteps, path_to, under}
use Rattle.pam_paths.specs.Listing.{Allowance, IsLawful}
use Rattle.pam_paths.specs.Paths.{PathValue, StepValue, step_of}
use Rattle.pam_paths.specs.Steps.{step_seen}
use Rattle.pam_paths.specs.Tail.{IsTail, tail_from}
use Rattle.pam_paths.specs.inner.Tail.{EndsInTail}
use Rattle.pam_paths.proofs.Alike.{least_is_offered, same_outcome-from}
use Rattle.pam_paths.proofs.Branches.{branches_none, from_first}
use Rattle.pam_paths.proofs.Sets.{everything}

-- STEPS THAT ARE ALIKE

step_at : ℕ → StepValue
step_at number = record { module_number = number; class = all_codes }

pub length-tail_from : (first count : ℕ) → length (tail_from first count) ≡ count
unfolding tail_from
length-tail_from first zero = refl
length-tail_from first (suc count) = ap suc (length-tail_from (first + 1) count)

tail_from-suc : (first count : ℕ) → tail_from first (suc count) ≡ tail_from first count ++ step_at (first + count) ∷ []
unfolding tail_from step_at
tail_from-suc first zero = ap (λ (n : ℕ). record { module_number = n; class = all_codes } ∷ []) (let e : first ≡ first + zero = omega arith in e)
tail_from-suc first (suc count) =
    let same : first + 1 + count ≡ first + suc count = omega arith in
    ap (λ (l : List StepValue). record { module_number = first; class = all_codes } ∷ l) (tail_from-suc (first + 1) count
    ∙ ap (λ (n : ℕ). tail_from (first + 1) count ++ record { module_number = n; class = all_codes } ∷ []) same)

pub tail_from-push : (first count : ℕ) →
    tail_from first (count + 1) ≡ tail_from first count ++ record { module_number = first + count; class = all_codes } ∷ []
unfolding step_at
tail_from-push first count =
    let more : count + 1 ≡ suc count = omega arith in
    ap (tail_from first) more ∙ tail_from-suc first count

pub tail_from-drop : (n first count : ℕ) → drop n (tail_from first count) ≡ tail_from (first + n) (count - n)
unfolding tail_from
tail_from-drop zero first count =
    let same : first + zero ≡ first = omega arith in
    let all : count - zero ≡ count = omega arith in
    rw (same, all) refl
tail_from-drop (suc n) first zero =
    let none : zero - suc n ≡ zero = omega arith in
    rw none refl
tail_from-drop (suc n) first (suc count) =
    let same : first + 1 + n ≡ first + suc n = omega arith in
    let all : suc count - suc n ≡ count - n = omega arith in
    rw (← same, all) (tail_from-drop n (first + 1) count)

pub tail_from-take : (n first count : ℕ) → n ≤ count → take n (tail_from first count) ≡ tail_from first n
unfolding tail_from
tail_from-take zero first count within = refl
tail_from-take (suc n) first zero within = absurd (omega (arith, within))
tail_from-take (suc n) first (suc count) within =
    ap (λ (l : List StepValue). record { module_number = first; class = all_codes } ∷ l) (tail_from-take n (first + 1) count (omega (arith, within)))

-- the steps of all modules, one after another
pub one-more : (steps more : List PathStep) (step : PathStep) (index : ℕ) → map step_seen steps ≡ tail_from 1 index → more ≡ steps ++ step ∷ [] →
    step.number ≡ 1 + index → step.class ≡ all_codes → map step_seen more ≡ tail_from 1 (index + 1)
one-more steps more step index is pushed at every =
    ap (map step_seen) pushed ∙ map-append step_seen steps (step ∷ [])
    ∙ ap (λ (l : List StepValue). l ++ step_seen step ∷ []) is
    ∙ ap (λ (n : ℕ). tail_from 1 index ++ record { module_number = n; class = step.class } ∷ []) at
    ∙ ap (λ (class : List ℕ). tail_from 1 index ++ record { module_number = 1 + index; class = class } ∷ []) every
    ∙ sym (tail_from-push 1 index)

-- the last of them
pub all-alike : (steps shown : List PathStep) (modules count : ℕ) → map step_seen steps ≡ tail_from 1 256 → shown ≡ steps → count ≤ modules → modules ≤ 256 →
    map step_seen (take (modules - (modules - count)) (drop (modules - count) shown)) ≡ tail_from (modules + 1 - count) count
all-alike steps shown modules count is same within few =
    let skipped = modules - count in
    let part = λ (l : List StepValue). take (modules - skipped) (drop skipped l) in
    let first : 1 + skipped ≡ modules + 1 - count = omega (arith, within) in
    let long : modules - skipped ≡ count = omega (arith, within) in
    let fits : modules - skipped ≤ 256 - skipped = omega (arith, few) in
    sym (take-map step_seen (modules - skipped) (drop skipped shown)) ∙ ap (take (modules - skipped)) (sym (drop-map step_seen skipped shown))
    ∙ ap (λ (l : List PathStep). part (map step_seen l)) same ∙ ap part is
    ∙ ap (take (modules - skipped)) (tail_from-drop skipped 1 256) ∙ tail_from-take (modules - skipped) (1 + skipped) (256 - skipped) fits
    ∙ ap (λ (n : ℕ). tail_from n (modules - skipped)) first ∙ ap (tail_from (modules + 1 - count)) long

-- THE LISTING OF A SETTLED RUN

abbrev IsUnchanged : Ask → State → Type 0
IsUnchanged ask s = (code : ℕ) → code < 31 → outcome_of ask code ≡ unchanged ask s

class-whole : (ask : Ask) (s : State) (code : ℕ) → IsUnchanged ask s → code < 31 → class_of ask code ≡ all_codes
unfolding class_at
class-whole ask s code same low =
    codes_where-same (λ d. same_outcome (outcome_of ask code) (outcome_of ask d)) (λ d. true)
    (λ d l. same_outcome-from (outcome_of ask code) (outcome_of ask d) (same code low ∙ sym (same d l)))
    ∙ sym everything

least-whole : least all_codes ≡ 0
unfolding all_codes
least-whole = refl

module _ (allows : Allowance) (ask : Ask) (s : State) (same : IsUnchanged ask s) where
  first-offered : (code : ℕ) → code < 31 → allows ask.module_number code ≡ true → is_offered allows ask 0 ≡ true
  first-offered code low allowed =
      ap (is_offered allows ask) (sym (ap least (class-whole ask s code same low) ∙ least-whole)) ∙ least_is_offered allows ask code low allowed

  others-not : (code : ℕ) → 0 < code → code < 31 → is_offered allows ask code ≡ false
  unfolding is_offered
  others-not code above low =
      let first : least (class_of ask code) ≡ 0 = ap least (class-whole ask s code same low) ∙ least-whole in
      let other : least (class_of ask code) ≢ code = λ e. omega (arith, first, e) in
      and_left (least (class_of ask code) == code) (list_any (allows ask.module_number) (class_of ask code)) (ne_eqb (least (class_of ask code)) code other)

  -- the one branch is that of code 0
  branches-settled : (below : Outcome → List PathValue) (first code : ℕ) → ask.module_number ≡ first → code < 31 →
      allows ask.module_number code ≡ true →
      branches allows ask below all_codes ≡ map (after_step (record { module_number = first; class = all_codes })) (below (unchanged ask s))
  unfolding all_codes
  branches-settled below first code at low allowed =
      let here = map (after_step (step_of ask 0)) (below (outcome_of ask 0)) in
      from_first allows ask below 0 0 (omega arith) (omega arith) (first-offered code low allowed) (λ k from to. absurd (omega (arith, to)))
      ∙ ap (λ (l : List PathValue). here ++ l) (branches_none allows ask below 1 30 (λ k from to. others-not k (omega (arith, from)) (omega (arith, to))))
      ∙ append-nil here
      ∙ ap (λ (o : Outcome). map (after_step (step_of ask 0)) (below o)) (same 0 (omega arith))
      ∙ ap (λ (l : List ℕ). map (after_step (record { module_number = ask.module_number; class = l })) (below (unchanged ask s)))
      (class-whole ask s 0 same (omega arith))
      ∙ ap (λ (n : ℕ). map (after_step (record { module_number = n; class = all_codes })) (below (unchanged ask s))) at

pub listing-settled : (allows : Allowance) (first count : ℕ) (s : State) (r : Runs) → IsSettled first count s r →
    ((m : ℕ) → first ≤ m → m < first + count → (code : ℕ) × (code < 31) × (allows m code ≡ true)) →
    listing allows r ≡ record { steps = tail_from first count; decision = decision_of s } ∷ []
unfolding IsSettled listing tail_from
listing-settled allows first count s (ends t) h lawful =
    ap (λ (u : State). record { steps = []; decision = decision_of u } ∷ []) h.1
    ∙ ap (λ (n : ℕ). record { steps = tail_from first n; decision = decision_of s } ∷ []) (sym h.0)
listing-settled allows first zero s (asks ask next) h lawful = absurd (omega (arith, h.0))
listing-settled allows first (suc count) s (asks ask next) h lawful =
    let fewer : suc count - 1 ≡ count = omega arith in
    let rest : IsSettled (first + 1) count s (next (unchanged ask s)) = rw fewer at h.3 in
    let some = lawful ask.module_number (omega (arith, h.1)) (omega (arith, h.1)) in
    let below = listing-settled allows (first + 1) count s (next (unchanged ask s)) rest (λ m from to. lawful m (omega (arith, from)) (omega (arith, to))) in
    branches-settled allows ask s h.2 (λ o. listing allows (next o)) first some.0 h.1 some.1 some.2
    ∙ ap (map (after_step (record { module_number = first; class = all_codes }))) below

ordered-settled : (d : Direction) (allows : Allowance) (first count : ℕ) (s : State) (r : Runs) → IsSettled first count s r →
    ((m : ℕ) → first ≤ m → m < first + count → (code : ℕ) × (code < 31) × (allows m code ≡ true)) →
    ordered d (listing allows r) ≡ record { steps = tail_from first count; decision = decision_of s } ∷ []
ordered-settled Forward allows first count s r h lawful = listing-settled allows first count s r h lawful
ordered-settled Backward allows first count s r h lawful = ap reverse (listing-settled allows first count s r h lawful)

under-path : (fs : List Frame) (steps : List StepValue) (decision : ℕ) →
    under fs (record { steps = steps; decision = decision } ∷ []) ≡ record { steps = map step_in fs ++ steps; decision = decision } ∷ []
unfolding after_steps
under-path [] steps decision = refl
under-path (f ∷ fs) steps decision = ap (map (after_step (step_in f))) (under-path fs steps decision)

-- a settled run asks no more modules than have numbers above those of the frames
settled-above : (low high first count : ℕ) (s : State) (r : Runs) → AsksRise low high r → IsSettled first count s r → 0 < count → low < first
unfolding AsksRise IsSettled
settled-above low high first count s (ends t) rise h some = absurd (omega (arith, h.0, some))
settled-above low high first count s (asks ask next) rise h some = omega (arith, rise.0, h.1)

pub settled-room : (low modules count : ℕ) (s : State) (r : Runs) → AsksRise low modules r → IsSettled (modules + 1 - count) count s r →
    count ≤ modules → 0 + low ≤ modules → low + count ≤ modules
settled-room low modules zero s r rise h within fits = omega (arith, fits)
settled-room low modules (suc count) s r rise h within fits =
    let above = settled-above low modules (modules + 1 - suc count) (suc count) s r rise h (omega arith) in
    omega (arith, above, within)

-- the one path of a settled run after frames
module _ (d : Direction) (allows : Allowance) (program : List FlatItem) (frames : List Frame) (r : Runs) (rest : SettledRun) where
  pub settled-path : IsLawful allows (modules_of program) → IsSettled (modules_of program + 1 - rest.modules) rest.modules (state_in r) r →
      rest.decision ≡ decision_of (state_in r) → rest.modules ≤ modules_of program →
      under frames (ordered d (listing allows r)) ++ ahead d allows program frames
      ≡ path_to (modules_of program) frames rest ∷ ahead d allows program frames
  settled-path lawful settled decided within =
      let first = modules_of program + 1 - rest.modules in
      let steps = tail_from first rest.modules in
      ap (λ (l : List PathValue). under frames l ++ ahead d allows program frames)
      (ordered-settled d allows first rest.modules (state_in r) r settled (λ m from to. lawful m (omega (arith, from, within)) (omega (arith, to, within))))
      ∙ ap (λ (l : List PathValue). l ++ ahead d allows program frames) (under-path frames steps (decision_of (state_in r)))
      ∙ ap (λ (n : ℕ). record { steps = map step_in frames ++ steps; decision = n } ∷ ahead d allows program frames) (sym decided)

-- THE LAST STEPS OF A PATH

-- the steps of a path end with steps that are alike
pub end-alike : (steps front last : List StepValue) (first count : ℕ) → steps ≡ front ++ last → last ≡ tail_from first count → EndsInTail count steps
end-alike steps front last first count parts is =
    let long : length last ≡ count = ap length is ∙ length-tail_from first count in
    let all : length steps ≡ length front + count = omega (arith, ap length parts, length-append front last, long) in
    let before : length steps - count ≡ length front = omega (arith, all) in
    let shown : drop (length steps - count) steps ≡ last =
    ap (λ (n : ℕ). drop n steps) before ∙ ap (drop (length front)) parts ∙ drop-append_seam front last in (
      omega (arith, all),
      (first, shown ∙ is ∙ ap (tail_from first) (sym (ap length shown ∙ long))),
    )

pub end-none : (steps : List StepValue) → EndsInTail 0 steps
unfolding tail_from
end-none steps =
    let none : drop (length steps - 0) steps ≡ [] = drop_all (length steps - 0) steps (omega arith) in
    (omega arith, (0, none ∙ ap (λ (l : List StepValue). tail_from 0 (length l)) (sym none)))

-- the last steps as a slice
module _ (steps shown : List PathStep) (seen : List StepValue) (count : ℕ) (is_seen : map step_seen steps ≡ seen) (end : EndsInTail count (map step_seen steps))
    (is : shown ≡ drop (length steps - count) steps) where
  abbrev told : ℕ
  told = length (map step_seen steps)

  same_long : told ≡ length steps
  same_long = length-map steps step_seen

  pub shown-long : length shown ≡ count
  shown-long = omega (arith, ap length is, length-drop (length steps - count) steps, same_long, end.0)

  shown-last : map step_seen shown ≡ drop (told - count) (map step_seen steps)
  shown-last = ap (map step_seen) is ∙ sym (drop-map step_seen (length steps - count) steps)
      ∙ ap (λ (n : ℕ). drop (n - count) (map step_seen steps)) (sym same_long)

  pub last-steps : map step_seen shown ≡ drop (length seen - length shown) seen
  last-steps = shown-last ∙ ap (λ (n : ℕ). drop (told - n) (map step_seen steps)) (sym shown-long)
      ∙ ap (λ (l : List StepValue). drop (length l - length shown) l) is_seen

  pub last-alike : IsTail (map step_seen shown)
  last-alike = (end.1.0, shown-last ∙ end.1.1 ∙ ap (λ (l : List StepValue). tail_from end.1.0 (length l)) (sym shown-last))

-- the steps of frames, and then others, are those of the frames as far as there are both
pub first-steps : (steps : List StepValue) (frames : List Frame) (last : List StepValue) → steps ≡ map step_in frames ++ last → AreFirstSteps frames steps
first-steps steps frames last is =
    let own = map step_in frames in
    let long : length own ≡ length frames = length-map frames step_in in
    let all : length steps ≡ length frames + length last = omega (arith, ap length is, length-append own last, long) in
    ap (take (length frames)) is ∙ take_at own last (length frames) long ∙ sym (take_all (length steps) own (omega (arith, all, long)))

pub no-steps : (steps : List StepValue) (frames : List Frame) → steps ≡ [] → AreFirstSteps frames steps
no-steps steps frames none =
    ap (take (length frames)) none ∙ take-nil (length frames) ∙ ap (λ (l : List StepValue). take (length l) (map step_in frames)) (sym none)

-- the steps of frames, and those of the rest
pub steps-told : (seen : List StepValue) (shown frames : List Frame) (last : List PathStep) (number modules count : ℕ) →
    seen ≡ map step_in shown ++ map step_seen last → shown ≡ frames → map step_seen last ≡ tail_from (number + 1 - count) count → number ≡ modules →
    seen ≡ map step_in frames ++ tail_from (modules + 1 - count) count
steps-told seen shown frames last number modules count is same alike all =
    is ∙ ap (λ (fs : List Frame). map step_in fs ++ map step_seen last) same ∙ ap (λ (l : List StepValue). map step_in frames ++ l) alike
    ∙ ap (λ (n : ℕ). map step_in frames ++ tail_from (n + 1 - count) count) all

pub tail-room : (last : List PathStep) (first count : ℕ) → map step_seen last ≡ tail_from first count → length last ≡ count
tail-room last first count alike = sym (length-map last step_seen) ∙ ap length alike ∙ length-tail_from first count

pub told-alike : (last : List PathStep) (first count : ℕ) → map step_seen last ≡ tail_from first count → IsTail (map step_seen last)
told-alike last first count alike = (first, alike ∙ ap (tail_from first) (sym (ap length alike ∙ length-tail_from first count)))

-- the path of frames and of the rest comes first
pub first-path : (d : Direction) (allows : Allowance) (program : List FlatItem) (before : List PathValue) (frames : List Frame) (rest : SettledRun)
    (steps : List PathStep) (decision : ℕ) → before ≡ path_to (modules_of program) frames rest ∷ ahead d allows program frames →
    map step_seen steps ≡ map step_in frames ++ tail_from (modules_of program + 1 - rest.modules) rest.modules → decision ≡ rest.decision →
    before ≡ record { steps = map step_seen steps; decision = decision } ∷ coming d allows program false frames
unfolding coming
first-path d allows program before frames rest steps decision is told decided =
    is ∙ ap (λ (l : List StepValue). record { steps = l; decision = rest.decision } ∷ ahead d allows program frames) (sym told)
    ∙ ap (λ (n : ℕ). record { steps = map step_seen steps; decision = n } ∷ ahead d allows program frames) (sym decided)
