use Rattle.std.proofs.Common.{◌≡◌, ◌<◌, ◌-◌, ◌∙◌, ℕ, Some, ap, arith, inl, inr, length, subst, sym, true}
use Rattle.std.specs.Prelude.{slice_get}
use Rattle.std.proofs.lemmas.Bool.{cases_lt}
use Rattle.std.proofs.lemmas.Option.{slice_get-get_or, slice_get_within}
use Rattle.pam_compare.specs.declared.held.HeldAnswer.{HeldAnswer}
use Rattle.pam_compare.specs.inner.Held.{AreAhead, is_wanted}
use Rattle.pam_compare.proofs.Ahead.{still-ahead, wanted}
use Rattle.pam_compare.proofs.Holding.{some-held}
use Rattle.pam_compare.proofs.held.kept_from.Goals as goal

pub loop-back-init : goal.loop-back-init
loop-back-init c modules are positive i h at late = let within = slice_get_within c.args.held.now i h at in absurd (omega (arith, within, late))

pub loop-back-preserved : goal.loop-back-preserved
loop-back-preserved c modules are positive i h at late =
    let held = c.args.held.now in
    let naming = c.args.naming.now in
    let k : ℕ = length held - 1 - c.loop-back.back in
    let earlier = c.index-held-index.result in
    let within : k < length held = omega arith in
    let there : slice_get held k ≡ Some earlier = slice_get-get_or held k earlier within ∙ ap (λ (x : HeldAnswer). Some x) (sym c.index-held-index.is) in
    elim (cases_lt k i) [
      | inl later ↦ c.loop-back.invariant modules are positive i h at (omega (arith, later))
      | inr most ↦
          let is : k ≡ i = omega (arith, most, late) in
          let e : earlier ≡ h = some-held earlier h (sym there ∙ ap (slice_get held) is ∙ at) in
          subst (λ (x : HeldAnswer). is_wanted naming.names.items naming.old_modules modules c.args.name c.args.step.old c.args.step.new x.name ≡ true) e
          (sym (c.is_wanted.ensures.exact modules are positive) ∙ c.if-not-is_wanted.false)
    ]

pub returns-then-passes_no_other-clause-wanted : goal.returns-then-passes_no_other-clause-wanted
unfolding AreAhead
returns-then-passes_no_other-clause-wanted c modules old_before new_before are positive from i h at late =
    let naming = c.args.naming.now in
    let other = c.without_name.ensures.others i h at late in
    wanted naming.names.items naming.old_modules modules c.args.name c.args.step.old c.args.step.new h.name other
    (still-ahead naming.names.items naming.old_modules modules c.args.step.turn old_before new_before c.args.step.old c.args.step.new h.name
    from.turn_is from.stays
    (c.passes_no_other.ensures c.if-passes_no_other.true) (λ same. other (same ∙ sym from.name_is)) (from.ahead i h at))

pub returns-then-not-is_wanted-clause-wanted : goal.returns-then-not-is_wanted-clause-wanted
returns-then-not-is_wanted-clause-wanted c modules old_before new_before are positive from i h at late =
    c.loop-back.invariant modules are positive i h at (omega (arith, late))

pub returns-clause-wanted : goal.returns-clause-wanted
returns-clause-wanted c modules old_before new_before are positive from i h at late =
    let within = slice_get_within c.args.held.now i h at in
    c.loop-back.invariant modules are positive i h at (omega (arith, within, c.loop-back-test.false))
