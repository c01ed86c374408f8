-- The events that are missing, as the binary digits of a number.
use Rattle.std.proofs.Common.{◌≡◌, ℕ, ◌+◌, ◌*◌, ◌/◌, ◌%◌, ◌^◌, ◌<◌, ◌≤◌, Bool, true, false}
use Rattle.std.proofs.Common.{List, [], ◌∷◌, ◌⊎◌, inl, inr, refl, sym, ◌∙◌, ap, subst}
use Rattle.std.proofs.Common.{◌-◌, add-one, arith, cond, drop, length}
use Rattle.std.proofs.lemmas.Bool.{cases_Bool, cases_eq, false≢true}
use Rattle.std.proofs.Math.Nat.{pow-le-pow_right, pow-suc}
use Rattle.pam_codes.specs.Set.{is_in}
use Rattle.pam_policy.specs.declared.search.marks.Marks.{Marks}
use Rattle.pam_policy.specs.declared.search.run.Step.{Step}
use Rattle.pam_policy.specs.search.inner.Monitor.{all_missing, missing_after}
use Rattle.pam_policy.specs.search.Marks.{codes_at}
use Rattle.pam_policy.proofs.SearchProofs.Events.{AllHappen, HappensIn, happens-cases, happens-here, happens-later, happens-none}

abbrev pub has : Marks → Step → Bool
has marks step = is_in step.code (codes_at marks step.module_number)

abbrev missing_by : List Marks → Step → ℕ → ℕ
missing_by wanted step missing = missing_after wanted step.module_number step.code missing

-- STEPS COVER WHAT IS MISSING: each event that is missing happens in them
unfoldable pub Covers : List Marks → ℕ → List Step → Type 0
Covers [] missing steps = Unit {0}
Covers (marks ∷ wanted) missing steps = ((missing % 2 ≡ 0) ⊎ HappensIn marks steps) × Covers wanted (missing / 2) steps

digit : (x y : ℕ) → x < 2 → ((x + 2 * y) % 2 ≡ x) × ((x + 2 * y) / 2 ≡ y)
digit x y h = (omega arith, omega arith)

-- the first event is the last digit, whether it happens at a step or not
module _ (marks : Marks) (step : Step) (missing y : ℕ) where
  abbrev left : Bool → ℕ
  left here = cond here 0 (missing % 2) + 2 * y

  taken : has marks step ≡ true → (left (has marks step) % 2 ≡ 0) × (left (has marks step) / 2 ≡ y)
  taken t = let d = digit 0 y (omega arith) in (ap (λ (b : Bool). left b % 2) t ∙ d.0, ap (λ (b : Bool). left b / 2) t ∙ d.1)

  kept : has marks step ≡ false → (left (has marks step) % 2 ≡ missing % 2) × (left (has marks step) / 2 ≡ y)
  kept f = let d = digit (missing % 2) y (omega arith) in (ap (λ (b : Bool). left b % 2) f ∙ d.0, ap (λ (b : Bool). left b / 2) f ∙ d.1)

pub covers-more : (wanted : List Marks) (missing : ℕ) (step : Step) (steps : List Step) → Covers wanted (missing_by wanted step missing) steps →
    Covers wanted missing (step ∷ steps)
unfolding Covers missing_after
covers-more [] missing step steps h = tt
covers-more (marks ∷ wanted) missing step steps h =
    let y : ℕ = missing_by wanted step (missing / 2) in
    elim (cases_Bool (has marks step)) [
      | inl t ↦ (
        inr (happens-here marks step steps (record { here = t })),
        covers-more wanted (missing / 2) step steps (subst (λ (n : ℕ). Covers wanted n steps) (taken marks step missing y t).1 h.1),
      )
      | inr f ↦ (
        elim h.0 [ inl e ↦ inl (sym (kept marks step missing y f).0 ∙ e) | inr k ↦ inr (happens-later marks step steps k) ],
        covers-more wanted (missing / 2) step steps (subst (λ (n : ℕ). Covers wanted n steps) (kept marks step missing y f).1 h.1),
      )
    ]

pub covers-less : (wanted : List Marks) (missing : ℕ) (step : Step) (steps : List Step) → Covers wanted missing (step ∷ steps) →
    Covers wanted (missing_by wanted step missing) steps
unfolding Covers missing_after
covers-less [] missing step steps h = tt
covers-less (marks ∷ wanted) missing step steps h =
    let y : ℕ = missing_by wanted step (missing / 2) in
    let below : Covers wanted y steps = covers-less wanted (missing / 2) step steps h.1 in
    elim (cases_Bool (has marks step)) [
      | inl t ↦ let d = taken marks step missing y t in (inl d.0, subst (λ (n : ℕ). Covers wanted n steps) (sym d.1) below)
      | inr f ↦ let d = kept marks step missing y f in (
        elim h.0 [
          | inl e ↦ inl (d.0 ∙ e)
          | inr k ↦ elim (happens-cases marks step steps k) [ inl by ↦ absurd (false≢true (sym f ∙ by.here)) | inr later ↦ inr later ]
        ],
        subst (λ (n : ℕ). Covers wanted n steps) (sym d.1) below,
      )
    ]

pub covers-zero : (wanted : List Marks) (steps : List Step) → Covers wanted 0 steps
unfolding Covers
covers-zero [] steps = tt
covers-zero (marks ∷ wanted) steps = (inl refl, covers-zero wanted steps)

-- no steps cover only what is missing nowhere
pub covers-end : (wanted : List Marks) (missing : ℕ) → missing ≤ all_missing wanted → Covers wanted missing [] → missing ≡ 0
unfolding Covers all_missing
covers-end [] missing low h = omega (arith, low)
covers-end (marks ∷ wanted) missing low h =
    let rest : missing / 2 ≡ 0 = covers-end wanted (missing / 2) (omega (arith, low)) h.1 in
    elim h.0 [ inl e ↦ omega (arith, e, rest) | inr k ↦ absurd (happens-none marks k) ]

pub missing-most : (wanted : List Marks) (number code missing : ℕ) → missing_after wanted number code missing ≤ all_missing wanted
unfolding missing_after all_missing
missing-most [] number code missing = omega arith
missing-most (marks ∷ wanted) number code missing =
    let rest = missing-most wanted number code (missing / 2) in
    elim (is_in code (codes_at marks number)) as
    (λ (b : Bool). cond b 0 (missing % 2) + 2 * missing_after wanted number code (missing / 2) ≤ 1 + 2 * all_missing wanted) [
      | true ↦ omega (arith, rest)
      | false ↦ omega (arith, rest)
    ]

-- where all are missing, each has to happen
halved : (n : ℕ) → ((1 + 2 * n) / 2 ≡ n) × ((1 + 2 * n) % 2 ≡ 1)
halved n = (omega arith, omega arith)

pub covers-all : (wanted : List Marks) (steps : List Step) → AllHappen wanted steps → Covers wanted (all_missing wanted) steps
unfolding Covers all_missing AllHappen
covers-all [] steps h = tt
covers-all (marks ∷ wanted) steps h =
    (inr h.0, subst (λ (n : ℕ). Covers wanted n steps) (sym (halved (all_missing wanted)).0) (covers-all wanted steps h.1))

pub all-covered : (wanted : List Marks) (steps : List Step) → Covers wanted (all_missing wanted) steps → AllHappen wanted steps
unfolding Covers all_missing AllHappen
all-covered [] steps h = tt
all-covered (marks ∷ wanted) steps h =
    let half = halved (all_missing wanted) in (
      elim h.0 [ inl e ↦ absurd (omega (arith, e, half.1)) | inr k ↦ k ],
      all-covered wanted steps (subst (λ (n : ℕ). Covers wanted n steps) half.0 h.1),
    )

-- HOW MANY STATES THERE ARE

pub all_missing-power : (wanted : List Marks) → all_missing wanted + 1 ≡ 2 ^ length wanted
unfolding all_missing
all_missing-power [] = refl
all_missing-power (marks ∷ wanted) = let rest = all_missing-power wanted in rw pow-suc (omega (arith, rest))

pub power-few : (n : ℕ) → n ≤ 4 → 2 ^ n ≤ 16
power-few n h = pow-le-pow_right {n = 2} (omega arith) {i = n} {j = 4} h

pub states-value : (wanted : List Marks) (count : ℕ) → count ≡ length wanted → count ≤ 4 → 1 * 2 ^ count % 256 - 1 ≡ all_missing wanted
states-value wanted count is few =
    let power : all_missing wanted + 1 ≡ 2 ^ count = all_missing-power wanted ∙ ap (λ (n : ℕ). 2 ^ n) (sym is) in
    let small = power-few count few in
    omega (arith, power, small)

pub states-few : (count : ℕ) → count ≤ 4 → 1 * 2 ^ count % 256 - 1 < 16
states-few count few = let small = power-few count few in omega (arith, small)

-- ONE DIGIT AFTER ANOTHER

pub times-digit : (bit digits : ℕ) → bit * (digits % 2) ≤ bit
times-digit bit digits =
    elim (cases_eq (digits % 2) 0) [
      | inl e ↦ subst (λ (n : ℕ). bit * n ≤ bit) (sym e) (omega arith)
      | inr ne ↦ let one : digits % 2 ≡ 1 = omega arith in subst (λ (n : ℕ). bit * n ≤ bit) (sym one) (omega arith)
    ]

pub bit-small : (i : ℕ) → i < 4 → 2 ^ i ≤ 8
bit-small i h = pow-le-pow_right {n = 2} (omega arith) {i = i} {j = 3} (omega (arith, h))

pub bit-next : (bit i : ℕ) → bit ≡ 2 ^ i → bit * 2 ≡ 2 ^ (i + 1)
bit-next bit i h = rw (add-one, pow-suc) (ap (λ (b : ℕ). b * 2) h)

-- the digit of the next event, and those of the others
pub digits-step : (wanted : List Marks) (i : ℕ) (marks : Marks) (number code digits left bit whole : ℕ) (here : Bool) →
    drop i wanted ≡ marks ∷ drop (i + 1) wanted → here ≡ is_in code (codes_at marks number) →
    left + bit * missing_after (drop i wanted) number code digits ≡ whole →
    (left + bit * cond here 0 (digits % 2)) + (bit * 2) * missing_after (drop (i + 1) wanted) number code (digits / 2) ≡ whole
unfolding missing_after
digits-step wanted i marks number code digits left bit whole here at is sum =
    let y : ℕ = missing_after (drop (i + 1) wanted) number code (digits / 2) in
    let next : missing_after (drop i wanted) number code digits ≡ cond here 0 (digits % 2) + 2 * y =
    ap (λ (ms : List Marks). missing_after ms number code digits) at ∙ ap (λ (b : Bool). cond b 0 (digits % 2) + 2 * y) (sym is) in
    more (cond here 0 (digits % 2)) y (missing_after (drop i wanted) number code digits) next sum
  where
    more : (x y m : ℕ) → m ≡ x + 2 * y → left + bit * m ≡ whole → (left + bit * x) + (bit * 2) * y ≡ whole
    more x y m e h = let k : left + bit * (x + 2 * y) ≡ whole = subst (λ (n : ℕ). left + bit * n ≡ whole) e h in omega (arith, k)

pub digits-end : (wanted : List Marks) (i number code digits left bit whole : ℕ) → drop i wanted ≡ [] →
    left + bit * missing_after (drop i wanted) number code digits ≡ whole → left ≡ whole
unfolding missing_after
digits-end wanted i number code digits left bit whole at sum =
    let none : missing_after (drop i wanted) number code digits ≡ 0 = ap (λ (ms : List Marks). missing_after ms number code digits) at in
    let k : left + bit * 0 ≡ whole = subst (λ (n : ℕ). left + bit * n ≡ whole) none sum in
    omega (arith, k)
