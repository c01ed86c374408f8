-- The problems that a module has by itself.
use Rattle.std.proofs.Common.{◌≡◌, ◌⊎◌, ◌↔◌, ℕ, Bool, true, List, [], ◌∷◌, ◌++◌, refl, sym, ap, subst, inl, inr, Option}
use Rattle.pam_conf.specs.Stack.{ModuleText}
use Rattle.pam_conf.specs.declared.rule.Kind.{Kind}
use Rattle.pam_findings.specs.host.Callers.{caller_is_root, is_daemon_service}
use Rattle.pam_findings.specs.host.inner.Looked.{OfRule, spot_at}
use Rattle.pam_findings.specs.host.Modules.{Modules}
use Rattle.pam_findings.specs.host.Separators.{lacks_separator}
use Rattle.pam_findings.specs.host.UnknownModules.{IsUnknown}
use Rattle.pam_findings.specs.host.inner.Table.{Adds}
use Rattle.pam_findings.specs.host.inner.WrongArguments.{OfArguments}
use Rattle.pam_findings.specs.host.Verdicts.{has_no_function, is_missing, is_other}
use Rattle.pam_findings.specs.declared.host.problem.Problem.{Problem}
use Rattle.pam_findings.specs.declared.host.problem.Problem.TheVariants as problems
use Rattle.pam_findings.specs.declared.host.problem.Spot.{Spot}
use Rattle.pam_findings.proofs.HostProofs.Adding.{adds-both, adds-if, adds-iff, adds-one}
use Rattle.pam_findings.proofs.HostProofs.Verdicted.{same-spot}

abbrev spot_in : Option ℕ → ℕ → Problem → Spot
spot_in file line problem = record { file = file; line = line; problem = problem }

-- a problem that a test finds
abbrev pub If : Bool → ModuleText → Problem → Spot → Type 0
If has rule problem spot = (has ≡ true) × (spot ≡ spot_at rule problem)

pub adds-rule : (rule : ModuleText) (problem : Problem) (old new : List Spot) (has : Bool) → has ≡ true → new ≡ old ++ spot_at rule problem ∷ [] →
    Adds (If has rule problem) old new
adds-rule rule problem old new has t is =
    adds-if (has ≡ true) (λ spot. spot ≡ spot_at rule problem) old new t (adds-one old new (spot_at rule problem) is)

module _ (modules : Modules) (name : List ℕ) (kind : Kind) (rule : ModuleText) where
  Parts : Spot → Type 0
  Parts spot =
      (((((If (is_other rule) rule problems.NeverAsked spot ⊎ If (is_missing modules rule) rule (problems.NoModule rule.dashed) spot)
      ⊎ If (has_no_function modules.facts kind rule) rule problems.NoFunction spot)
      ⊎ If (caller_is_root kind name rule) rule (problems.CallerIsRoot (is_daemon_service name)) spot)
      ⊎ If (lacks_separator rule) rule problems.EmptySeparator spot)
      ⊎ OfArguments modules.facts modules.files kind rule spot)
      ⊎ (IsUnknown modules kind rule × (spot ≡ spot_at rule problems.UnknownModule))

  to-rule : (spot : Spot) → Parts spot → OfRule modules name kind rule spot
  unfolding Parts
  to-rule spot (inl (inl (inl (inl (inl (inl h)))))) = subst (OfRule modules name kind rule) (sym h.1) (record { file = refl; line = refl; has = h.0 })
  to-rule spot (inl (inl (inl (inl (inl (inr h)))))) =
      subst (OfRule modules name kind rule) (sym h.1) (record { file = refl; line = refl; has = (h.0, refl) })
  to-rule spot (inl (inl (inl (inl (inr h))))) = subst (OfRule modules name kind rule) (sym h.1) (record { file = refl; line = refl; has = h.0 })
  to-rule spot (inl (inl (inl (inr h)))) =
      subst (OfRule modules name kind rule) (sym h.1) (record { file = refl; line = refl; has = (h.0, refl) })
  to-rule spot (inl (inl (inr h))) = subst (OfRule modules name kind rule) (sym h.1) (record { file = refl; line = refl; has = h.0 })
  to-rule spot (inl (inr (inl (inl h)))) = subst (OfRule modules name kind rule) (sym h.of.at) (record { file = refl; line = refl; has = inl h.of.is })
  to-rule spot (inl (inr (inl (inr h)))) = subst (OfRule modules name kind rule) (sym h.at) (record { file = refl; line = refl; has = h.is })
  to-rule spot (inl (inr (inr h))) = subst (OfRule modules name kind rule) (sym h.of.at) (record { file = refl; line = refl; has = inr h.of.is })
  to-rule spot (inr h) = subst (OfRule modules name kind rule) (sym h.1) (record { file = refl; line = refl; has = h.0 })

  from-rule : (file : Option ℕ) (line : ℕ) (problem : Problem) →
      (let spot : Spot = record { file = file; line = line; problem = problem } in OfRule modules name kind rule spot → Parts spot)
  unfolding Parts
  from-rule file line (problems.NoModule is_dashed) h =
      inl (inl (inl (inl (inl (inr (h.has.0, same-spot _ _ h.file h.line (ap problems.NoModule h.has.1)))))))
  from-rule file line problems.NeverAsked h = inl (inl (inl (inl (inl (inl (h.has, same-spot _ _ h.file h.line refl))))))
  from-rule file line problems.NoFunction h = inl (inl (inl (inl (inr (h.has, same-spot _ _ h.file h.line refl)))))
  from-rule file line (problems.CallerIsRoot is_daemon) h =
      inl (inl (inl (inr (h.has.0, same-spot _ _ h.file h.line (ap problems.CallerIsRoot h.has.1)))))
  from-rule file line problems.EmptySeparator h = inl (inl (inr (h.has, same-spot _ _ h.file h.line refl)))
  from-rule file line (problems.Argument argument wrong) h =
      let at : spot_in file line (problems.Argument argument wrong) ≡ spot_at rule (problems.Argument argument wrong) =
      same-spot _ _ h.file h.line refl in
      elim h.has [
        | inl is ↦ inl (inr (inl (inl (record { position = argument; of = record { wrong = wrong; is = is; at = at } }))))
        | inr is ↦ inl (inr (inr (record { position = argument; of = record { wrong = wrong; is = is; at = at } })))
      ]
  from-rule file line (problems.BadArguments lack) h =
      inl (inr (inl (inr (record { lack = lack; is = h.has; at = same-spot _ _ h.file h.line refl }))))
  from-rule file line problems.UnknownModule h = inr (h.has, same-spot _ _ h.file h.line refl)
  from-rule file line (problems.LetsNobodyIn service of_kind) h = absurd h.has
  from-rule file line (problems.LetsAnybodyIn service is_greeter) h = absurd h.has
  from-rule file line (problems.TooLarge service of_kind) h = absurd h.has
  from-rule file line (problems.OtherAnswers service of_kind has_no_rule lets_nobody_in) h = absurd h.has
  from-rule file line problems.JumpPastEnd h = absurd h.has
  from-rule file line problems.SuccessNeverCounts h = absurd h.has
  from-rule file line problems.LinkOutside h = absurd h.has
  from-rule file line (problems.StoredThoughRefused by) h = absurd h.has
  from-rule file line problems.NoFailureCounted h = absurd h.has
  from-rule file line (problems.NotCounted counts) h = absurd h.has
  from-rule file line (problems.Fault fault) h = absurd h.has
  from-rule file line (problems.Walk fault) h = absurd h.has
  from-rule file line (problems.Released difference) h = absurd h.has
  from-rule file line (problems.IncludedFromVendor is_at_include) h = absurd h.has
  from-rule file line problems.NoOther h = absurd h.has
  from-rule file line problems.UnreachableName h = absurd h.has
  from-rule file line problems.LeftOver h = absurd h.has
  from-rule file line problems.JumpIntoInclude h = absurd h.has

  pub adds-of-rule : (old zero first second third fourth fifth new : List Spot) (other missing functionless root daemon empty unknown : Bool) →
      other ≡ is_other rule → missing ≡ is_missing modules rule → functionless ≡ has_no_function modules.facts kind rule →
      root ≡ caller_is_root kind name rule → daemon ≡ is_daemon_service name → empty ≡ lacks_separator rule →
      ((unknown ≡ true) ↔ IsUnknown modules kind rule) →
      Adds (If other rule problems.NeverAsked) old zero → Adds (If missing rule (problems.NoModule rule.dashed)) zero first →
      Adds (If functionless rule problems.NoFunction) first second → Adds (If root rule (problems.CallerIsRoot daemon)) second third →
      Adds (If empty rule problems.EmptySeparator) third fourth → Adds (OfArguments modules.facts modules.files kind rule) fourth fifth →
      Adds (If unknown rule problems.UnknownModule) fifth new → Adds (OfRule modules name kind rule) old new
  unfolding Parts
  adds-of-rule old zero first second third fourth fifth new other missing functionless root daemon empty unknown
      is_another is_missing_test is_functionless is_root is_daemon is_empty says_unknown g h k l m n o =
      let O : Spot → Type 0 = If (is_other rule) rule problems.NeverAsked in
      let A : Spot → Type 0 = If (is_missing modules rule) rule (problems.NoModule rule.dashed) in
      let B : Spot → Type 0 = If (has_no_function modules.facts kind rule) rule problems.NoFunction in
      let C : Spot → Type 0 = If (caller_is_root kind name rule) rule (problems.CallerIsRoot (is_daemon_service name)) in
      let D : Spot → Type 0 = If (lacks_separator rule) rule problems.EmptySeparator in
      let U : Spot → Type 0 = λ spot. IsUnknown modules kind rule × (spot ≡ spot_at rule problems.UnknownModule) in
      adds-iff (λ spot. (((((O spot ⊎ A spot) ⊎ B spot) ⊎ C spot) ⊎ D spot) ⊎ OfArguments modules.facts modules.files kind rule spot) ⊎ U spot) (OfRule modules name kind rule) old new
      (λ spot. (to-rule spot, from-rule spot.file spot.line spot.problem))
      (adds-both (λ spot. ((((O spot ⊎ A spot) ⊎ B spot) ⊎ C spot) ⊎ D spot) ⊎ OfArguments modules.facts modules.files kind rule spot) U old fifth new
      (adds-both (λ spot. (((O spot ⊎ A spot) ⊎ B spot) ⊎ C spot) ⊎ D spot) (OfArguments modules.facts modules.files kind rule) old fourth fifth
      (adds-both (λ spot. ((O spot ⊎ A spot) ⊎ B spot) ⊎ C spot) D old third fourth
      (adds-both (λ spot. (O spot ⊎ A spot) ⊎ B spot) C old second third
      (adds-both (λ spot. O spot ⊎ A spot) B old first second
      (adds-both O A old zero first
      (subst (λ (b : Bool). Adds (If b rule problems.NeverAsked) old zero) is_another g)
      (subst (λ (b : Bool). Adds (If b rule (problems.NoModule rule.dashed)) zero first) is_missing_test h))
      (subst (λ (b : Bool). Adds (If b rule problems.NoFunction) first second) is_functionless k))
      (subst (λ (d : Bool). Adds (If (caller_is_root kind name rule) rule (problems.CallerIsRoot d)) second third) is_daemon
      (subst (λ (b : Bool). Adds (If b rule (problems.CallerIsRoot daemon)) second third) is_root l)))
      (subst (λ (b : Bool). Adds (If b rule problems.EmptySeparator) third fourth) is_empty m)) n)
      (adds-iff (If unknown rule problems.UnknownModule) U fifth new
      (λ spot. (λ i. (says_unknown.0 i.0, i.1), λ i. (says_unknown.1 i.0, i.1))) o))
