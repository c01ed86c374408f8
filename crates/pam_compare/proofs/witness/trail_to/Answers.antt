use Rattle.std.proofs.Common.{◌≡◌, ◌<◌, ◌∙◌, ℕ, List, [], ◌∷◌, ◌++◌, ap, append_assoc, arith, subst, sym}
use Rattle.std.proofs.lemmas.List.{append-nil}
use Rattle.std.proofs.lemmas.Option.{slice_get_within}
use Rattle.pam_compare.specs.declared.nodes.Way.{Way}
use Rattle.pam_compare.specs.inner.Trails.{IsTrail}
use Rattle.pam_compare.proofs.Growing.{same-some}
use Rattle.pam_compare.proofs.Trails.{trail-start, trail-step}
use Rattle.pam_compare.proofs.witness.trail_to.Goals as goal

pub loop-at-init : goal.loop-at-init
loop-at-init c = record {
  rest = c.requires.0;
  is_rest = c.requires.1;
  whole = subst (λ (l : List Way). IsTrail c.args.ways.now c.args.index (l ++ c.requires.0)) (sym c.new-trail.ensures.items) c.requires.1;
}

pub step_at-way-requires : goal.step_at-way-requires
step_at-way-requires c =
    let step = trail-step c.args.ways.now c.loop-at.at c.loop-at.invariant.rest c.loop-at-test.true c.loop-at.invariant.is_rest in
    slice_get_within c.args.ways.now c.loop-at.at step.0 step.2

pub loop-at-smaller : goal.loop-at-smaller
loop-at-smaller c =
    let at = c.loop-at.at in
    let step = trail-step c.args.ways.now at c.loop-at.invariant.rest c.loop-at-test.true c.loop-at.invariant.is_rest in
    let same : c.step_at-way.result ≡ step.0 = same-some _ step.0 (sym c.step_at-way.ensures ∙ step.2) in
    subst (λ (x : Way). x.parent < at) (sym same) step.3

pub loop-at-preserved : goal.loop-at-preserved
loop-at-preserved c =
    let inv = c.loop-at.invariant in
    let ways = c.args.ways.now in
    let way = c.step_at-way.result in
    let step = trail-step ways c.loop-at.at inv.rest c.loop-at-test.true inv.is_rest in
    let same : way ≡ step.0 = same-some way step.0 (sym c.step_at-way.ensures ∙ step.2) in
    let trail = c.loop-at.trail.items in
    let rest : inv.rest ≡ way ∷ step.1 = step.5 ∙ ap (λ (x : Way). x ∷ step.1) (sym same) in
    record {
      rest = step.1;
      is_rest = subst (λ (x : Way). IsTrail ways x.parent step.1) (sym same) step.4;
      whole = subst (λ (l : List Way). IsTrail ways c.args.index (l ++ step.1)) (sym c.in_ok-push.ensures.items)
          (subst (IsTrail ways c.args.index) (ap (λ (l : List Way). trail ++ l) rest ∙ sym (append_assoc trail (way ∷ []) step.1)) inv.whole);
    }

pub returns : goal.returns
returns c =
    let inv = c.loop-at.invariant in
    let ways = c.args.ways.now in
    let zero : c.loop-at.at ≡ 0 = omega arith in
    let none : inv.rest ≡ [] = trail-start ways inv.rest (subst (λ (n : ℕ). IsTrail ways n inv.rest) zero inv.is_rest) in
    subst (IsTrail ways c.args.index) (ap (λ (l : List Way). c.loop-at.trail.items ++ l) none ∙ append-nil c.loop-at.trail.items) inv.whole
