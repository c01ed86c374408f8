-- The wrong arguments of a rule, one after the other.
use Rattle.std.proofs.Common.{◌≡◌, ◌∙◌, ◌+◌, ◌-◌, ◌≤◌, ℕ, zero, suc, List, [], ◌∷◌, ◌++◌, Option, None, Some, drop, length, slice_get}
use Rattle.std.proofs.Common.{ap, arith, inl, inr, refl, subst, sym}
use Rattle.std.proofs.lemmas.Bool.{cases_lt}
use Rattle.std.specs.Option.{option_and_then}
use Rattle.pam_facts.specs.Knowing.{meaning_of}
use Rattle.pam_facts.specs.Rows.{Row}
use Rattle.pam_facts.specs.arguments.Verdicts.{Module}
use Rattle.pam_facts.specs.declared.arguments.lacks.Lack.{Lack}
use Rattle.pam_conf.specs.Stack.{ModuleText}
use Rattle.pam_conf.specs.declared.rule.Kind.{Kind}
use Rattle.pam_findings.specs.host.Arguments.{wrong_at, wrong_by}
use Rattle.pam_findings.specs.host.inner.Looked.{spot_at}
use Rattle.pam_findings.specs.host.inner.Table.{Adds}
use Rattle.pam_findings.specs.host.inner.WrongArguments.{OfFound, OfKnown, OfLack, OfNumbered, OfWrong, found_at}
use Rattle.pam_findings.specs.declared.host.problem.ArgumentProblem.{ArgumentProblem}
use Rattle.pam_findings.specs.declared.host.problem.Problem.TheVariants as problems
use Rattle.pam_findings.specs.declared.host.problem.Spot.{Spot}
use Rattle.pam_findings.proofs.HostProofs.Adding.{OfFirst, adds-iff, adds-none, adds-one, modules-more}

pub adds-wrong : (rule : ModuleText) (position : ℕ) (found : Option ArgumentProblem) (wrong : ArgumentProblem) (old new : List Spot) →
    found ≡ Some wrong → new ≡ old ++ spot_at rule (problems.Argument position wrong) ∷ [] → Adds (OfWrong rule position found) old new
adds-wrong rule position found wrong old new is added =
    let one : Spot = spot_at rule (problems.Argument position wrong) in
    adds-iff (λ spot. spot ≡ one) (OfWrong rule position found) old new
    (λ spot. (
      λ e. record { wrong = wrong; is = is; at = e },
      λ w.
          let both : Some w.wrong ≡ Some wrong = sym w.is ∙ is in
          let same : w.wrong ≡ wrong = cc in
          w.at ∙ ap (λ (x : ArgumentProblem). spot_at rule (problems.Argument position x)) same,
    ))
    (adds-one old new one added)

pub adds-right : (rule : ModuleText) (position : ℕ) (found : Option ArgumentProblem) (spots : List Spot) → found ≡ None →
    Adds (OfWrong rule position found) spots spots
adds-right rule position found spots none =
    adds-none (OfWrong rule position found) spots
    (λ spot w. let no : None ≡ Some w.wrong = sym none ∙ w.is in absurd cc)

pub adds-lack : (rule : ModuleText) (found : Option Lack) (lack : Lack) (old new : List Spot) →
    found ≡ Some lack → new ≡ old ++ spot_at rule (problems.BadArguments lack) ∷ [] → Adds (OfLack found rule) old new
adds-lack rule found lack old new is added =
    let one : Spot = spot_at rule (problems.BadArguments lack) in
    adds-iff (λ spot. spot ≡ one) (OfLack found rule) old new
    (λ spot. (
      λ e. record { lack = lack; is = is; at = e },
      λ w.
          let both : Some w.lack ≡ Some lack = sym w.is ∙ is in
          let same : w.lack ≡ lack = cc in
          w.at ∙ ap (λ (x : Lack). spot_at rule (problems.BadArguments x)) same,
    ))
    (adds-one old new one added)

pub adds-whole : (rule : ModuleText) (found : Option Lack) (spots : List Spot) → found ≡ None → Adds (OfLack found rule) spots spots
adds-whole rule found spots none =
    adds-none (OfLack found rule) spots
    (λ spot w. let no : None ≡ Some w.lack = sym none ∙ w.is in absurd cc)

-- the word in front of those that are left is that at their position
pub word-there : (words : List (List ℕ)) (n : ℕ) (word : List ℕ) (rest : List (List ℕ)) → drop n words ≡ word ∷ rest →
    (slice_get words n ≡ Some word) × (drop (n + 1) words ≡ rest)
word-there [] zero word rest h = absurd (let no : [] ≡ word ∷ rest = h in cc)
word-there [] (suc n) word rest h = absurd (let no : [] ≡ word ∷ rest = h in cc)
word-there (x ∷ words) zero word rest h = ((let e : x ∷ words ≡ word ∷ rest = h in cc), (let e : x ∷ words ≡ word ∷ rest = h in cc))
word-there (x ∷ words) (suc n) word rest h =
    let k = word-there words n word rest h in
    let next : suc n + 1 ≡ suc (n + 1) = omega arith in
    (k.0, ap (λ (m : ℕ). drop m (x ∷ words)) next ∙ k.1)

-- past the last word there is none
pub past-last : (words : List (List ℕ)) (n : ℕ) → drop n words ≡ [] → length words ≤ n
past-last [] n h = omega arith
past-last (x ∷ words) zero h = absurd (let no : x ∷ words ≡ [] = h in cc)
past-last (x ∷ words) (suc n) h = let k = past-last words n h in omega (arith, k)

no-word : (words : List (List ℕ)) (n : ℕ) → length words ≤ n → slice_get words n ≡ None
no-word [] zero h = refl
no-word [] (suc n) h = refl
no-word (x ∷ words) zero h = absurd (omega (arith, h))
no-word (x ∷ words) (suc n) h = no-word words n (omega (arith, h))

module _ (by_word : List ℕ → Option ArgumentProblem) (rule : ModuleText) where
  -- one more argument is looked at
  pub arguments-more : (n : ℕ) (word : List ℕ) (found : Option ArgumentProblem) (old middle new : List Spot) → slice_get rule.arguments n ≡ Some word →
      found ≡ by_word word → Adds (OfFirst (OfNumbered by_word rule) n) old middle →
      Adds (OfWrong rule n found) middle new → Adds (OfFirst (OfNumbered by_word rule) (n + 1)) old new
  arguments-more n word found old middle new there is h k =
      let here : found ≡ found_at by_word rule n = is ∙ sym (ap (option_and_then by_word) there) in
      let at : n ≡ (n + 1) - 1 = omega arith in
      modules-more (OfNumbered by_word rule) n old middle new h
      (subst (λ (p : ℕ). Adds (OfWrong rule p (found_at by_word rule p)) middle new) at
      (subst (λ (o : Option ArgumentProblem). Adds (OfWrong rule n o) middle new) here k))

  -- all are looked at
  pub arguments-all : (n : ℕ) (old new : List Spot) → length rule.arguments ≤ n →
      Adds (OfFirst (OfNumbered by_word rule) n) old new → Adds (OfFound by_word rule) old new
  arguments-all n old new all h =
      adds-iff (OfFirst (OfNumbered by_word rule) n) (OfFound by_word rule) old new
      (λ spot. (
        λ m. record { position = m.0 - 1; of = m.3 },
        λ k.
            let at : k.position ≡ (k.position + 1) - 1 = omega arith in (
              k.position + 1,
              omega arith,
              within spot k,
              subst (λ (p : ℕ). OfWrong rule p (found_at by_word rule p) spot) at k.of,
            ),
      ))
      h
    where
      within : (spot : Spot) (k : OfFound by_word rule spot) → k.position + 1 ≤ n
      within spot k = elim (cases_lt k.position (length rule.arguments)) [
        | inl lt ↦ omega (arith, lt, all)
        | inr ge ↦
            let none : found_at by_word rule k.position ≡ None = ap (option_and_then by_word) (no-word rule.arguments k.position ge) in
            let no : None ≡ Some k.of.wrong = sym none ∙ k.of.is in
            absurd cc
      ]

-- of a module of which this is known
pub arguments-known : (rows : List Row) (known : Module) (kind : Kind) (rule : ModuleText) (old new : List Spot) →
    Adds (OfFound (λ word. wrong_by (meaning_of rows kind rule known word)) rule) old new → Adds (OfKnown rows (Some known) kind rule) old new
arguments-known rows known kind rule old new h =
    adds-iff (OfFound (λ word. wrong_by (meaning_of rows kind rule known word)) rule) (OfKnown rows (Some known) kind rule) old new
    (λ spot. (λ f. record { position = f.position; of = f.of }, λ k. record { position = k.position; of = k.of })) h

-- of a module of which nothing is known
pub arguments-unknown : (rows : List Row) (kind : Kind) (rule : ModuleText) (known : Option Module) (spots : List Spot) → known ≡ None →
    Adds (OfKnown rows known kind rule) spots spots
arguments-unknown rows kind rule known spots none =
    adds-none (OfKnown rows known kind rule) spots
    (λ spot k.
    let nothing : wrong_at rows known kind rule k.position ≡ None =
    ap (λ (o : Option Module). wrong_at rows o kind rule k.position) none in
    let no : None ≡ Some k.of.wrong = sym nothing ∙ k.of.is in
    absurd cc)
