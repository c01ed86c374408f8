use Rattle.std.proofs.Common.{◌≡◌, ◌<◌, ◌-◌, ◌∙◌, ℕ, Some, ap, arith, inl, inr, length, sym}
use Rattle.std.specs.Prelude.{slice_get}
use Rattle.std.proofs.lemmas.Bool.{cases_lt}
use Rattle.std.proofs.lemmas.Option.{slice_get-get_or, slice_get_within}
use Rattle.pam_compare.specs.declared.held.HeldAnswer.{HeldAnswer}
use Rattle.pam_compare.proofs.Holding.{some-held}
use Rattle.pam_compare.proofs.held.without_name.Goals as goal

pub loop-back-init : goal.loop-back-init
loop-back-init c i h at late = let within = slice_get_within c.args.held.now i h at in absurd (omega (arith, within, late))

pub loop-back-preserved : goal.loop-back-preserved
loop-back-preserved c i h at late same =
    let held = c.args.held.now in
    let k : ℕ = length held - 1 - c.loop-back.back in
    let earlier = c.index-held-index.result in
    let within : k < length held = omega arith in
    let there : slice_get held k ≡ Some earlier = slice_get-get_or held k earlier within ∙ ap (λ (x : HeldAnswer). Some x) (sym c.index-held-index.is) in
    elim (cases_lt k i) [
      | inl later ↦ c.loop-back.invariant i h at (omega (arith, later)) same
      | inr most ↦
          let is : k ≡ i = omega (arith, most, late) in
          let e : earlier ≡ h = some-held earlier h (sym there ∙ ap (slice_get held) is ∙ at) in
          c.if-earlier-name.false (ap (λ (x : HeldAnswer). x.name) e ∙ same)
    ]

pub returns-then-earlier-name-clause-others : goal.returns-then-earlier-name-clause-others
returns-then-earlier-name-clause-others c i h at late = c.loop-back.invariant i h at (omega (arith, late))

pub returns-clause-others : goal.returns-clause-others
returns-clause-others c i h at late =
    let within = slice_get_within c.args.held.now i h at in c.loop-back.invariant i h at (omega (arith, within, c.loop-back-test.false))
