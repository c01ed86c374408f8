-- The problems that a verdict gives.
use Rattle.std.proofs.Common.{◌≡◌, ◌⊎◌, ◌↔◌, ℕ, Bool, true, false, List, [], ◌∷◌, ◌++◌, refl, sym, ◌∙◌, ap, subst, inl, inr, Option, IsSome}
use Rattle.std.specs.Option.{option_map_or}
use Rattle.pam_conf.specs.declared.rule.Kind.{Kind}
use Rattle.pam_conf.specs.declared.rule.Kind.TheVariants.{Auth}
use Rattle.pam_text.specs.Members.{Member}
use Rattle.pam_findings.specs.host.Faillock.{has_task}
use Rattle.pam_findings.specs.host.inner.Halves.{HalfIn, HalvesIn}
use Rattle.pam_findings.specs.host.inner.Looked.{OfModules, VainIn, at_of}
use Rattle.pam_findings.specs.host.StackProblems.{ByVerdict}
use Rattle.pam_findings.specs.host.Storing.{stores}
use Rattle.pam_findings.specs.host.inner.Table.{Adds}
use Rattle.pam_findings.specs.host.inner.Storing.{StoredIn}
use Rattle.pam_findings.specs.host.inner.Taking.{LacksIn}
use Rattle.pam_findings.specs.host.inner.Uncounted.{UncountedIn}
use Rattle.pam_findings.specs.host.Verdicts.{IsOpen, Judged, Judgement, SaysWhoLogsIn}
use Rattle.pam_findings.specs.declared.host.judging.Stacked.{Stacked}
use Rattle.pam_findings.specs.declared.host.problem.Problem.{Problem}
use Rattle.pam_findings.specs.declared.host.problem.Problem.TheVariants as problems
use Rattle.pam_findings.specs.declared.host.problem.Spot.{Spot}
use Rattle.pam_findings.proofs.HostProofs.Adding.{adds-both, adds-if, adds-iff, adds-none, adds-one}

-- a problem of a whole stack, at a file
abbrev pub spot_in : Option ℕ → Problem → Spot
spot_in file problem = record { file = file; line = 0; problem = problem }

abbrev pub spot_of : Stacked → Problem → Spot
spot_of at problem = spot_in at.home problem

pub same-spot : (one other : Spot) → one.file ≡ other.file → one.line ≡ other.line → one.problem ≡ other.problem → one ≡ other
same-spot one other file line problem =
    ap (λ (x : Option ℕ). let s : Spot = record { file = x; line = one.line; problem = one.problem } in s) file
    ∙ ap (λ (x : ℕ). let s : Spot = record { file = other.file; line = x; problem = one.problem } in s) line
    ∙ ap (λ (x : Problem). let s : Spot = record { file = other.file; line = other.line; problem = x } in s) problem

-- what a test says
pub says : {P : Type 0} (b : Bool) → (b ≡ true → P) → (b ≡ false → P → ⊥) → (b ≡ true) ↔ P
says true h k = (h, λ _. refl)
says false h k = (h, λ p. absurd (k refl p))

pub adds-whole : (file : Option ℕ) (problem : Problem) (old new : List Spot) (has : Bool) → has ≡ true → new ≡ old ++ spot_in file problem ∷ [] →
    Adds (λ spot. (has ≡ true) × (spot ≡ spot_in file problem)) old new
adds-whole file problem old new has t is =
    adds-if (has ≡ true) (λ spot. spot ≡ spot_in file problem) old new t (adds-one old new (spot_in file problem) is)

-- where somebody is let in
pub adds-vain : (kind : Kind) (j : Judgement) (old new : List Spot) → (kind ≡ Auth) × (j.nobody ≡ false) →
    Adds (OfModules problems.SuccessNeverCounts j.items (λ number. Member number j.never_counts × SaysWhoLogsIn j.failing number)) old new →
    Adds (VainIn kind j) old new
adds-vain kind j old new lets h =
    adds-iff (OfModules problems.SuccessNeverCounts j.items (λ number. Member number j.never_counts × SaysWhoLogsIn j.failing number)) (VainIn kind j) old new
    (λ spot. (λ m. record { auth = lets.0; somebody = lets.1; of = m }, λ v. v.of)) h

-- where nobody is
pub adds-no-vain : (kind : Kind) (j : Judgement) (spots : List Spot) → (kind ≡ Auth → j.nobody ≡ false → ⊥) → Adds (VainIn kind j) spots spots
adds-no-vain kind j spots none = adds-none (VainIn kind j) spots (λ spot v. none v.auth v.somebody)

one-half : (j : Judgement) (spot : Spot) (counts : Bool) → HalfIn j.items j.never_asked counts spot →
    HalfIn j.items j.never_asked false spot ⊎ HalfIn j.items j.never_asked true spot
one-half j spot false h = inl h
one-half j spot true h = inr h

-- rules of pam_faillock with one task alone
pub adds-halves : (kind : Kind) (j : Judgement) (old middle new : List Spot) → kind ≡ Auth → Adds (HalfIn j.items j.never_asked false) old middle →
    Adds (HalfIn j.items j.never_asked true) middle new → Adds (HalvesIn kind j) old new
adds-halves kind j old middle new auth h k =
    adds-iff (λ spot. HalfIn j.items j.never_asked false spot ⊎ HalfIn j.items j.never_asked true spot) (HalvesIn kind j) old new
    (λ spot. (
      λ w. elim w [ inl a ↦ record { auth = auth; counts = false; half = a } | inr a ↦ record { auth = auth; counts = true; half = a } ],
      λ v. one-half j spot v.counts v.half,
    ))
    (adds-both (HalfIn j.items j.never_asked false) (HalfIn j.items j.never_asked true) old middle new h k)

module _ (at : Stacked) (j : Judgement) (nobody anybody : Bool)
    (says_nobody : (nobody ≡ true) ↔ ((j.nobody ≡ true) × IsOpen at.kind j.items × (at.is_only_included ≡ false)))
    (says_anybody : (anybody ≡ true) ↔ ((at.kind ≡ Auth) × IsSome j.way × (at.is_only_included ≡ false))) where
  By : Spot → Problem → Type 0
  By spot problem = ByVerdict (at_of at) (Judged j) spot problem

  abbrev Vain : Spot → Type 0
  Vain spot = VainIn at.kind j spot

  abbrev Half : Spot → Type 0
  Half spot = HalvesIn at.kind j spot

  abbrev Lacking : Spot → Type 0
  Lacking spot = LacksIn at.is_included at.kind j spot

  abbrev Stored : Spot → Type 0
  Stored spot = StoredIn at.kind j spot

  abbrev Uncounted : Spot → Type 0
  Uncounted spot = UncountedIn at.is_included at.kind j spot

  Parts : Spot → Type 0
  Parts spot =
      ((((((((nobody ≡ true) × (spot ≡ spot_in j.causes.nobody (problems.LetsNobodyIn at.named at.kind)))
      ⊎ ((anybody ≡ true) × (spot ≡ spot_in j.causes.anybody (problems.LetsAnybodyIn at.named at.is_greeter))))
      ⊎ OfModules problems.JumpPastEnd j.items (λ number. Member number j.jumps) spot)
      ⊎ Vain spot)
      ⊎ Half spot)
      ⊎ Lacking spot)
      ⊎ Stored spot)
      ⊎ Uncounted spot

  to-verdict : (spot : Spot) → Parts spot → By spot spot.problem
  unfolding By Parts
  to-verdict spot (inl (inl (inl (inl (inl (inl (inl h))))))) =
      let k = says_nobody.0 h.0 in
      subst (λ (s : Spot). By s s.problem) (sym h.1) (refl, refl, (refl, refl), (k.0, k.1), k.2)
  to-verdict spot (inl (inl (inl (inl (inl (inl (inr h))))))) =
      let k = says_anybody.0 h.0 in
      subst (λ (s : Spot). By s s.problem) (sym h.1) (refl, k.0, (refl, refl), k.1, k.2, refl)
  to-verdict spot (inl (inl (inl (inl (inl (inr m)))))) = subst (By spot) (sym m.of.problem_is) (m.number, m.of.rule, m.of.at, m.one)
  to-verdict spot (inl (inl (inl (inl (inr v))))) =
      let m = v.of in
      subst (By spot) (sym m.of.problem_is) (v.auth, (v.somebody, (m.number, m.of.rule, m.of.at, m.one)))
  to-verdict spot (inl (inl (inl (inr v)))) =
      let m = v.half.of in
      subst (By spot) (sym m.of.problem_is) (
        v.auth,
        (
          m.number,
          m.of.rule,
          m.of.at,
          (sym (ap (λ o. option_map_or (has_task v.counts) o false) m.of.at.is_there) ∙ m.one, v.half.none),
        ),
      )
  to-verdict spot (inl (inl (inr v))) = subst (By spot) (sym v.problem_is) (refl, v.alone, v.has)
  to-verdict spot (inl (inr v)) =
      let m = v.of in
      subst (By spot) (sym m.of.problem_is) (
        v.password,
        (m.number, m.of.rule, m.of.at, (sym (ap (λ o. option_map_or stores o false) m.of.at.is_there) ∙ m.one.stores, m.one.fails)),
      )
  to-verdict spot (inr v) =
      let m = v.of in
      subst (By spot) (sym m.of.problem_is) (
        v.auth,
        v.alone,
        (
          m.number,
          m.of.rule,
          m.of.at,
          (sym (ap (λ o. option_map_or (has_task true) o false) m.of.at.is_there) ∙ m.one.counts, m.one.asked, m.one.none),
        ),
      )

  from-verdict : (file : Option ℕ) (line : ℕ) (problem : Problem) →
      (let spot : Spot = record { file = file; line = line; problem = problem } in By spot problem → Parts spot)
  unfolding By Parts
  from-verdict file line (problems.LetsNobodyIn service kind) h =
      inl (inl (inl (inl (inl (inl (inl (
        says_nobody.1 (h.3.0, h.3.1, h.4),
        same-spot _ _ h.2.0 h.2.1 (ap (λ s. problems.LetsNobodyIn s kind) h.0 ∙ ap (problems.LetsNobodyIn at.named) h.1),
      )))))))
  from-verdict file line (problems.LetsAnybodyIn service is_greeter) h =
      inl (inl (inl (inl (inl (inl (inr (
        says_anybody.1 (h.1, h.3, h.4),
        same-spot _ _ h.2.0 h.2.1 (ap (λ s. problems.LetsAnybodyIn s is_greeter) h.0 ∙ ap (problems.LetsAnybodyIn at.named) h.5),
      )))))))
  from-verdict file line problems.JumpPastEnd h =
      inl (inl (inl (inl (inl (inr record { number = h.0; one = h.3; of = record { problem_is = refl; rule = h.1; at = h.2 } })))))
  from-verdict file line problems.SuccessNeverCounts h =
      let m = h.1.1 in
      inl (inl (inl (inl (inr record {
        auth = h.0;
        somebody = h.1.0;
        of = record { number = m.0; one = m.3; of = record { problem_is = refl; rule = m.1; at = m.2 } };
      }))))
  from-verdict file line (problems.NotCounted counts) h =
      let m = h.1 in
      inl (inl (inl (inr record {
        auth = h.0;
        counts = counts;
        half = record {
          none = m.3.1;
          of = record {
            number = m.0;
            one = ap (λ o. option_map_or (has_task counts) o false) m.2.is_there ∙ m.3.0;
            of = record { problem_is = refl; rule = m.1; at = m.2 };
          };
        };
      })))
  from-verdict file line (problems.Argument argument wrong) h =
      inl (inl (inr record { alone = h.1; argument = argument; problem_is = ap (problems.Argument argument) h.0; has = h.2 }))
  from-verdict file line (problems.StoredThoughRefused by) h =
      let m = h.1 in
      inl (inr record {
        password = h.0;
        by = by;
        of = record {
          number = m.0;
          one = record { stores = ap (λ o. option_map_or stores o false) m.2.is_there ∙ m.3.0; fails = m.3.1 };
          of = record { problem_is = refl; rule = m.1; at = m.2 };
        };
      })
  from-verdict file line problems.NoFailureCounted h =
      let m = h.2 in
      inr record {
        alone = h.1;
        auth = h.0;
        of = record {
          number = m.0;
          one = record { counts = ap (λ o. option_map_or (has_task true) o false) m.2.is_there ∙ m.3.0; asked = m.3.1; none = m.3.2 };
          of = record { problem_is = refl; rule = m.1; at = m.2 };
        };
      }
  from-verdict file line (problems.TooLarge service kind) h = absurd cc
  from-verdict file line (problems.OtherAnswers service kind has_no_rule lets_nobody_in) h = absurd h
  from-verdict file line (problems.Fault fault) h = absurd h
  from-verdict file line (problems.Walk fault) h = absurd h
  from-verdict file line (problems.Released difference) h = absurd h
  from-verdict file line (problems.IncludedFromVendor is_at_include) h = absurd h
  from-verdict file line problems.NeverAsked h = absurd h
  from-verdict file line (problems.NoModule is_dashed) h = absurd h
  from-verdict file line problems.NoOther h = absurd h
  from-verdict file line problems.UnreachableName h = absurd h
  from-verdict file line problems.LeftOver h = absurd h
  from-verdict file line problems.JumpIntoInclude h = absurd h
  from-verdict file line problems.NoFunction h = absurd h
  from-verdict file line (problems.CallerIsRoot is_daemon) h = absurd h
  from-verdict file line (problems.BadArguments lack) h = absurd h
  from-verdict file line problems.EmptySeparator h = absurd h
  from-verdict file line problems.UnknownModule h = absurd h
  from-verdict file line problems.LinkOutside h = absurd h

  pub adds-judged : (old first second third fourth fifth sixth seventh new : List Spot) →
      Adds (λ spot. (nobody ≡ true) × (spot ≡ spot_in j.causes.nobody (problems.LetsNobodyIn at.named at.kind))) old first →
      Adds (λ spot. (anybody ≡ true) × (spot ≡ spot_in j.causes.anybody (problems.LetsAnybodyIn at.named at.is_greeter))) first second →
      Adds (OfModules problems.JumpPastEnd j.items (λ number. Member number j.jumps)) second third →
      Adds (VainIn at.kind j) third fourth →
      Adds (HalvesIn at.kind j) fourth fifth →
      Adds (LacksIn at.is_included at.kind j) fifth sixth →
      Adds (StoredIn at.kind j) sixth seventh →
      Adds (UncountedIn at.is_included at.kind j) seventh new →
      Adds (λ spot. ByVerdict (at_of at) (Judged j) spot spot.problem) old new
  unfolding By Parts
  adds-judged old first second third fourth fifth sixth seventh new a b c d e f g i =
      let A : Spot → Type 0 = λ spot. (nobody ≡ true) × (spot ≡ spot_in j.causes.nobody (problems.LetsNobodyIn at.named at.kind)) in
      let B : Spot → Type 0 = λ spot. (anybody ≡ true) × (spot ≡ spot_in j.causes.anybody (problems.LetsAnybodyIn at.named at.is_greeter)) in
      let C : Spot → Type 0 = OfModules problems.JumpPastEnd j.items (λ number. Member number j.jumps) in
      adds-iff (λ spot. ((((((A spot ⊎ B spot) ⊎ C spot) ⊎ Vain spot) ⊎ Half spot) ⊎ Lacking spot) ⊎ Stored spot) ⊎ Uncounted spot)
      (λ spot. ByVerdict (at_of at) (Judged j) spot spot.problem) old new
      (λ spot. (to-verdict spot, from-verdict spot.file spot.line spot.problem))
      (adds-both (λ spot. (((((A spot ⊎ B spot) ⊎ C spot) ⊎ Vain spot) ⊎ Half spot) ⊎ Lacking spot) ⊎ Stored spot) Uncounted old seventh new
      (adds-both (λ spot. ((((A spot ⊎ B spot) ⊎ C spot) ⊎ Vain spot) ⊎ Half spot) ⊎ Lacking spot) Stored old sixth seventh
      (adds-both (λ spot. (((A spot ⊎ B spot) ⊎ C spot) ⊎ Vain spot) ⊎ Half spot) Lacking old fifth sixth
      (adds-both (λ spot. ((A spot ⊎ B spot) ⊎ C spot) ⊎ Vain spot) Half old fourth fifth
      (adds-both (λ spot. (A spot ⊎ B spot) ⊎ C spot) Vain old third fourth
      (adds-both (λ spot. A spot ⊎ B spot) C old second third (adds-both A B old first second a b) c) d) e) f) g) i)
