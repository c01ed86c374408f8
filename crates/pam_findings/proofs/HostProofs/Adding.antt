-- Lists of problems.
use Rattle.std.proofs.Common.{◌≡◌, ◌⊎◌, ◌↔◌, ℕ, ◌+◌, ◌<◌, ◌≤◌, true, false, List, [], ◌∷◌, ◌++◌, take, length, map, refl, sym, ◌∙◌, ap, subst, inl}
use Rattle.std.proofs.Common.{inr, arith, MatchOption, Option, Some, None, get_or, is_some}
use Rattle.std.specs.Option.{option_map, option_map_or}
use Rattle.std.proofs.lemmas.Bool.{cases_eq, false≢true}
use Rattle.pam_conf.specs.Stack.{Items, IsNumbered, ModuleText, module_at, module_count}
use Rattle.pam_conf.specs.declared.conf_error.ConfError.{ConfError}
use Rattle.pam_conf.specs.declared.rule.Kind.{Kind}
use Rattle.pam_conf.proofs.StackTree.{module_at-range}
use Rattle.pam_text.specs.Members.{Member}
use Rattle.pam_findings.specs.host.inner.Looked.{OfModule, OfModules, OfNumber, OfRule, walk_spot}
use Rattle.pam_findings.specs.host.Modules.{Modules}
use Rattle.pam_findings.specs.host.StackProblems.{InItems, InWalk}
use Rattle.pam_findings.specs.host.inner.Table.{Adds}
use Rattle.pam_findings.specs.host.Verdicts.{HasOther, is_other}
use Rattle.pam_findings.specs.declared.host.problem.Problem.{Problem}
use Rattle.pam_findings.specs.declared.host.problem.Problem.TheVariants as problems
use Rattle.pam_findings.specs.declared.host.problem.Spot.{Spot}
use Rattle.pam_findings.proofs.HostProofs.Meeting.{from_both, from_one, to_back, to_front, to_one}
use Rattle.pam_findings.proofs.HostProofs.Owned.{from_map, to_map}
use Rattle.pam_findings.proofs.HostProofs.Passes.{all_so_far, none_yet, one_more}

pub adds-none : (Holds : Spot → Type 0) (spots : List Spot) → ((spot : Spot) → Holds spot → ⊥) → Adds Holds spots spots
adds-none Holds spots none = record { each = λ spot. (λ w. elim w [ inl h ↦ h | inr h ↦ absurd (none spot h) ], λ h. inl h) }

pub adds-iff : (A B : Spot → Type 0) (old new : List Spot) → ((spot : Spot) → A spot ↔ B spot) → Adds A old new → Adds B old new
adds-iff A B old new same h = record {
  each = λ spot. (
    λ w. (h.each spot).0 (elim w [ inl k ↦ inl k | inr b ↦ inr ((same spot).1 b) ]),
    λ i. elim ((h.each spot).1 i) [ inl k ↦ inl k | inr a ↦ inr ((same spot).0 a) ],
  );
}

pub adds-both : (A B : Spot → Type 0) (old middle new : List Spot) → Adds A old middle → Adds B middle new → Adds (λ spot. A spot ⊎ B spot) old new
adds-both A B old middle new h k = record {
  each = λ spot. (
    λ w. elim w [
      | inl i ↦ (k.each spot).0 (inl ((h.each spot).0 (inl i)))
      | inr c ↦ elim c [ inl a ↦ (k.each spot).0 (inl ((h.each spot).0 (inr a))) | inr b ↦ (k.each spot).0 (inr b) ]
    ],
    λ i. elim ((k.each spot).1 i) [
      | inl j ↦ elim ((h.each spot).1 j) [ inl l ↦ inl l | inr a ↦ inr (inl a) ]
      | inr b ↦ inr (inr b)
    ],
  );
}

pub adds-list : (old new more : List Spot) → new ≡ old ++ more → Adds (λ spot. Member spot more) old new
adds-list old new more is = record {
  each = λ spot. (
    λ w. subst (Member spot) (sym is) (elim w [ inl h ↦ to_front spot old more h | inr h ↦ to_back spot old more h ]),
    λ h. from_both spot old more (subst (Member spot) is h),
  );
}

pub adds-one : (old new : List Spot) (one : Spot) → new ≡ old ++ one ∷ [] → Adds (λ spot. spot ≡ one) old new
adds-one old new one is =
    adds-iff (λ spot. Member spot (one ∷ [])) (λ spot. spot ≡ one) old new (λ spot. (from_one spot one, to_one spot one)) (adds-list old new (one ∷ []) is)

-- from nothing on
pub added : (Holds : Spot → Type 0) (old new : List Spot) → old ≡ [] → Adds Holds old new → Adds Holds [] new
added Holds old new none h = subst (λ l. Adds Holds l new) none h

-- FAULTS OF A WALK

walk-from : (faults : List ConfError) (spot : Spot) → Member spot (map walk_spot faults) → InWalk faults spot spot.problem
walk-from faults spot h =
    let k = from_map walk_spot spot faults h in
    let P : Spot → Type 0 = λ s. InWalk faults s s.problem in
    subst P (sym k.2) k.1

walk-to : (faults : List ConfError) (file : Option ℕ) (line : ℕ) (problem : Problem) →
    (let s : Spot = record { file = file; line = line; problem = problem } in InWalk faults s problem → Member s (map walk_spot faults))
walk-to faults file line (problems.Walk fault) h = to_map walk_spot (let e : ConfError = record { kind = fault; at = file; line = line } in e) faults h
walk-to faults file line (problems.Fault fault) h = absurd h
walk-to faults file line (problems.Released difference) h = absurd h
walk-to faults file line (problems.IncludedFromVendor is_at_include) h = absurd h
walk-to faults file line (problems.LetsNobodyIn service kind) h = absurd h
walk-to faults file line (problems.LetsAnybodyIn service is_greeter) h = absurd h
walk-to faults file line problems.NeverAsked h = absurd h
walk-to faults file line problems.JumpPastEnd h = absurd h
walk-to faults file line (problems.NoModule is_dashed) h = absurd h
walk-to faults file line problems.NoOther h = absurd h
walk-to faults file line problems.UnreachableName h = absurd h
walk-to faults file line (problems.TooLarge service kind) h = absurd h
walk-to faults file line (problems.OtherAnswers service kind has_no_rule lets_nobody_in) h = absurd h
walk-to faults file line problems.LeftOver h = absurd h
walk-to faults file line problems.JumpIntoInclude h = absurd h
walk-to faults file line problems.NoFunction h = absurd h
walk-to faults file line (problems.CallerIsRoot is_daemon) h = absurd h
walk-to faults file line problems.EmptySeparator h = absurd h
walk-to faults file line problems.UnknownModule h = absurd h
walk-to faults file line problems.SuccessNeverCounts h = absurd h
walk-to faults file line problems.LinkOutside h = absurd h
walk-to faults file line (problems.StoredThoughRefused by) h = absurd h
walk-to faults file line problems.NoFailureCounted h = absurd h
walk-to faults file line (problems.NotCounted counts) h = absurd h
walk-to faults file line (problems.Argument argument wrong) h = absurd h
walk-to faults file line (problems.BadArguments lack) h = absurd h

pub adds-walk : (faults : List ConfError) (old new : List Spot) → new ≡ old ++ map walk_spot faults → Adds (λ spot. InWalk faults spot spot.problem) old new
adds-walk faults old new is =
    adds-iff (λ spot. Member spot (map walk_spot faults)) (λ spot. InWalk faults spot spot.problem) old new
    (λ spot. (walk-from faults spot, walk-to faults spot.file spot.line spot.problem))
    (adds-list old new (map walk_spot faults) is)

-- the same for a reference to them, added to an empty list
pub walk-seen : (faults seen : List ConfError) (old new : List Spot) → old ≡ [] → seen ≡ faults → new ≡ old ++ map walk_spot seen →
    Adds (λ spot. InWalk faults spot spot.problem) [] new
walk-seen faults seen old new none same is =
    added (λ spot. InWalk faults spot spot.problem) old new none
    (adds-walk faults old new (is ∙ ap (λ (l : List ConfError). old ++ map walk_spot l) same))

-- MODULES

-- the module with a number has one place
pub of-module : (problem : Problem) (items : Items) (number : ℕ) (rule : ModuleText) → module_at number items ≡ Some rule → (old new : List Spot) →
    (let one : Spot = record { file = Some rule.file; line = rule.line; problem = problem } in new ≡ old ++ one ∷ []
    → Adds (OfModule problem items number) old new)
of-module problem items number rule there old new is =
    let one : Spot = record { file = Some rule.file; line = rule.line; problem = problem } in
    adds-iff (λ spot. spot ≡ one) (OfModule problem items number) old new
    (λ spot. (
      λ e. record {
        problem_is = ap (λ (s : Spot). s.problem) e;
        rule = rule;
        at = record { is_there = there; file = ap (λ (s : Spot). s.file) e; line = ap (λ (s : Spot). s.line) e };
      },
      λ m.
          let same : Some m.rule ≡ Some rule = sym m.at.is_there ∙ there in
          let equal : m.rule ≡ rule = cc in
          let file : spot.file ≡ Some rule.file = m.at.file ∙ ap (λ (r : ModuleText). Some r.file) equal in
          let line : spot.line ≡ rule.line = m.at.line ∙ ap (λ (r : ModuleText). r.line) equal in
          ap (λ (x : Option ℕ). let s : Spot = record { file = x; line = spot.line; problem = spot.problem } in s) file
          ∙ ap (λ (x : ℕ). let s : Spot = record { file = Some rule.file; line = x; problem = spot.problem } in s) line
          ∙ ap (λ (x : Problem). let s : Spot = record { file = Some rule.file; line = rule.line; problem = x } in s) m.problem_is,
    ))
    (adds-one old new one is)

pub of-no-module : (problem : Problem) (items : Items) (number : ℕ) → module_at number items ≡ None → (spots : List Spot) →
    Adds (OfModule problem items number) spots spots
of-no-module problem items number none spots =
    adds-none (OfModule problem items number) spots (λ spot m. let clash : Some m.rule ≡ None = sym m.at.is_there ∙ none in absurd cc)

-- a number of which nothing holds adds nothing
pub adds-if : (Is : Type 0) (Holds : Spot → Type 0) (old new : List Spot) → Is → Adds Holds old new → Adds (λ spot. Is × Holds spot) old new
adds-if Is Holds old new is h = adds-iff Holds (λ spot. Is × Holds spot) old new (λ spot. (λ k. (is, k), λ k. k.1)) h

pub adds-unless : (Is : Type 0) (Holds : Spot → Type 0) (spots : List Spot) → (Is → ⊥) → Adds (λ spot. Is × Holds spot) spots spots
adds-unless Is Holds spots isnt = adds-none (λ spot. Is × Holds spot) spots (λ spot k. isnt k.0)

-- of the first modules
abbrev pub OfFirst : (ℕ → Spot → Type 0) → ℕ → Spot → Type 0
OfFirst Of n spot = (number : ℕ) × (1 ≤ number) × (number ≤ n) × Of number spot

pub modules-none : (Of : ℕ → Spot → Type 0) (spots : List Spot) → Adds (OfFirst Of 0) spots spots
modules-none Of spots = adds-none (OfFirst Of 0) spots (λ spot m. omega (arith, m.1, m.2))

pub modules-more : (Of : ℕ → Spot → Type 0) (n : ℕ) (old middle new : List Spot) → Adds (OfFirst Of n) old middle → Adds (Of (n + 1)) middle new →
    Adds (OfFirst Of (n + 1)) old new
modules-more Of n old middle new h k =
    adds-iff (λ spot. OfFirst Of n spot ⊎ Of (n + 1) spot) (OfFirst Of (n + 1)) old new
    (λ spot. (
      λ w. elim w [ inl m ↦ (m.0, m.1, omega (arith, m.2), m.3) | inr o ↦ (n + 1, omega arith, omega arith, o) ],
      λ m. elim (cases_eq m.0 (n + 1)) [
        | inl e ↦ inr (subst (λ number. Of number spot) e m.3)
        | inr ne ↦ inl (m.0, m.1, omega (arith, m.2, ne), m.3)
      ],
    ))
    (adds-both (OfFirst Of n) (Of (n + 1)) old middle new h k)

-- the numbers of a stack's modules
pub numbered : (items : Items) (number : ℕ) (rule : ModuleText) → IsNumbered items → module_at number items ≡ Some rule →
    (1 ≤ number) × (number ≤ module_count items)
numbered items number rule is there =
    let range = module_at-range 1 number items is (ap is_some there) in
    (range.0, omega (arith, range.1))

rule-of : (modules : Modules) (name : List ℕ) (kind : Kind) (spot : Spot) (o : Option ModuleText) →
    MatchOption o ⊥ (λ rule. OfRule modules name kind rule spot) → (rule : ModuleText) × (o ≡ Some rule) × OfRule modules name kind rule spot
rule-of modules name kind spot None h = absurd h
rule-of modules name kind spot (Some rule) h = (rule, refl, h)

-- the problems that the module with a number has by itself
pub of-number : (modules : Modules) (name : List ℕ) (kind : Kind) (items : Items) (number : ℕ) (rule : ModuleText) → module_at number items ≡ Some rule →
    (old new : List Spot) → Adds (OfRule modules name kind rule) old new → Adds (OfNumber modules name kind items number) old new
of-number modules name kind items number rule there old new h =
    subst (λ (o : Option ModuleText). Adds (λ spot. MatchOption o ⊥ (λ r. OfRule modules name kind r spot)) old new) (sym there) h

pub of-no-number : (modules : Modules) (name : List ℕ) (kind : Kind) (items : Items) (number : ℕ) → module_at number items ≡ None → (spots : List Spot) →
    Adds (OfNumber modules name kind items number) spots spots
of-no-number modules name kind items number none spots =
    subst (λ (o : Option ModuleText). Adds (λ spot. MatchOption o ⊥ (λ r. OfRule modules name kind r spot)) spots spots) (sym none)
    (adds-none (λ spot. ⊥) spots (λ spot h. h))

pub modules-all : (modules : Modules) (name : List ℕ) (kind : Kind) (items : Items) (n : ℕ) (old new : List Spot) → IsNumbered items → module_count items ≤ n →
    Adds (OfFirst (OfNumber modules name kind items) n) old new → Adds (λ spot. InItems modules name kind (Some items) spot spot.problem) old new
modules-all modules name kind items n old new is all h =
    adds-iff (OfFirst (OfNumber modules name kind items) n) (λ spot. InItems modules name kind (Some items) spot spot.problem) old new
    (λ spot. (
      λ m.
          let k = rule-of modules name kind spot (module_at m.0 items) m.3 in
          (m.0, k.0, record { is_there = k.1; file = k.2.file; line = k.2.line }, k.2.has),
      λ m.
          let range = numbered items m.0 m.1 is m.2.is_there in (
            m.0,
            range.0,
            omega (arith, range.1, all),
            subst (λ (o : Option ModuleText). MatchOption o ⊥ (λ rule. OfRule modules name kind rule spot)) (sym m.2.is_there)
                (record { file = m.2.file; line = m.2.line; has = m.3 }),
          ),
    ))
    h

pub tested-all : (problem : Problem) (items : Items) (IsOne : ℕ → Type 0) (n : ℕ) (old new : List Spot) → IsNumbered items → module_count items ≤ n →
    Adds (OfFirst (λ number spot. IsOne number × OfModule problem items number spot) n) old new → Adds (OfModules problem items IsOne) old new
tested-all problem items IsOne n old new is all h =
    adds-iff (OfFirst (λ number spot. IsOne number × OfModule problem items number spot) n) (OfModules problem items IsOne) old new
    (λ spot. (
      λ m. record { number = m.0; one = m.3.0; of = m.3.1 },
      λ m. let range = numbered items m.number m.of.rule is m.of.at.is_there in (m.number, range.0, omega (arith, range.1, all), (m.one, m.of)),
    ))
    h

-- the numbers of a list
pub listed-none : (problem : Problem) (items : Items) (numbers : List ℕ) (spots : List Spot) →
    Adds (OfModules problem items (λ number. Member number (take 0 numbers))) spots spots
listed-none problem items numbers spots =
    adds-none (OfModules problem items (λ number. Member number (take 0 numbers))) spots (λ spot m. none_yet m.number numbers m.one)

pub listed-more : (problem : Problem) (items : Items) (numbers : List ℕ) (n number d : ℕ) (old middle new : List Spot) →
    n < length numbers → number ≡ get_or numbers n d →
    Adds (OfModules problem items (λ m. Member m (take n numbers))) old middle → Adds (OfModule problem items number) middle new →
    Adds (OfModules problem items (λ m. Member m (take (n + 1) numbers))) old new
listed-more problem items numbers n number d old middle new within is h k =
    adds-iff (λ spot. OfModules problem items (λ m. Member m (take n numbers)) spot ⊎ OfModule problem items number spot)
    (OfModules problem items (λ m. Member m (take (n + 1) numbers))) old new
    (λ spot. (
      λ w. elim w [
        | inl m ↦ record { number = m.number; one = (one_more m.number number d numbers n within is).0 (inl m.one); of = m.of }
        | inr m ↦ record { number = number; one = (one_more number number d numbers n within is).0 (inr refl); of = m }
      ],
      λ m. elim ((one_more m.number number d numbers n within is).1 m.one) [
        | inl i ↦ inl record { number = m.number; one = i; of = m.of }
        | inr e ↦ inr (subst (λ x. OfModule problem items x spot) e m.of)
      ],
    ))
    (adds-both (OfModules problem items (λ m. Member m (take n numbers))) (OfModule problem items number) old middle new h k)

pub listed-all : (problem : Problem) (items : Items) (numbers : List ℕ) (n : ℕ) (old new : List Spot) → length numbers ≤ n →
    Adds (OfModules problem items (λ m. Member m (take n numbers))) old new → Adds (OfModules problem items (λ m. Member m numbers)) old new
listed-all problem items numbers n old new all h =
    adds-iff (OfModules problem items (λ m. Member m (take n numbers))) (OfModules problem items (λ m. Member m numbers)) old new
    (λ spot. (
      λ m. record { number = m.number; one = (all_so_far m.number numbers n all).0 m.one; of = m.of },
      λ m. record { number = m.number; one = (all_so_far m.number numbers n all).1 m.one; of = m.of },
    ))
    h

-- what an option of a module says
pub at-module : {M : Type 0} (f : M → ModuleText) (o : Option M) (m : M) (items : Items) (number : ℕ) → option_map f o ≡ module_at number items → o ≡ Some m →
    module_at number items ≡ Some (f m)
at-module f o m items number h is = sym h ∙ ap (option_map f) is

pub at-no-module : {M : Type 0} (f : M → ModuleText) (o : Option M) (items : Items) (number : ℕ) → option_map f o ≡ module_at number items → o ≡ None →
    module_at number items ≡ None
at-no-module f o items number h is = sym h ∙ ap (option_map f) is

-- WHETHER A MODULE DOES SOMETHING ELSE

other-of : (o : Option ModuleText) → option_map_or is_other o false ≡ true → (m : ModuleText) × (o ≡ Some m) × (is_other m ≡ true)
other-of None h = absurd (false≢true h)
other-of (Some m) h = (m, refl, h)

pub other-at : (items : Items) (number : ℕ) → option_map_or is_other (module_at number items) false ≡ true → HasOther items
other-at items number h =
    let k = other-of (module_at number items) h in
    (number, k.0, k.1, k.2)

pub no-other : (items : Items) (n : ℕ) → IsNumbered items → module_count items ≤ n →
    ((number : ℕ) → 1 ≤ number → number ≤ n → option_map_or is_other (module_at number items) false ≡ false) → HasOther items → ⊥
no-other items n is all none h =
    let range = numbered items h.0 h.1 is h.2 in
    false≢true (sym (none h.0 range.0 (omega (arith, range.1, all))) ∙ ap (λ o. option_map_or is_other o false) h.2 ∙ h.3)

pub other-more : (items : Items) (n : ℕ) → ((number : ℕ) → 1 ≤ number → number ≤ n → option_map_or is_other (module_at number items) false ≡ false) →
    option_map_or is_other (module_at (n + 1) items) false ≡ false →
    (number : ℕ) → 1 ≤ number → number ≤ n + 1 → option_map_or is_other (module_at number items) false ≡ false
other-more items n none last number low high =
    elim (cases_eq number (n + 1)) [
      | inl e ↦ ap (λ m. option_map_or is_other (module_at m items) false) e ∙ last
      | inr ne ↦ none number low (omega arith)
    ]
