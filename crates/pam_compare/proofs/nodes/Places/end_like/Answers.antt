use Rattle.std.proofs.Common.{◌≡◌, ◌<◌, ◌∙◌, ℕ, Some, ap, arith, inl, inr, length, sym}
use Rattle.std.specs.Prelude.{slice_get}
use Rattle.std.proofs.lemmas.Bool.{cases_lt, false≢true}
use Rattle.std.proofs.lemmas.Option.{slice_get-get_or, slice_get_within}
use Rattle.pam_dispatch.specs.Flat.{rest_of}
use Rattle.pam_dispatch.specs.Runs.{Runs, state_in}
use Rattle.pam_compare.proofs.Ends.{one-end}
use Rattle.pam_compare.proofs.Growing.{same-some}
use Rattle.pam_compare.proofs.nodes.Places.end_like.Goals as goal

pub returns-then-is_in_state_of-clause-found : goal.returns-then-is_in_state_of-clause-found
returns-then-is_in_state_of-clause-found c program are of here asked =
    let k : ℕ = c.index-end.result.now in
    let known = c.args.self.now.ends.items in
    let within : c.loop-index.index < length known = omega arith in
    let at : slice_get known c.loop-index.index ≡ Some k =
    slice_get-get_or known c.loop-index.index k within ∙ ap (λ (n : ℕ). Some n) (sym c.index-end.ensures) in
    let s = of.sound c.loop-index.index k at in
    let state = c.is_in_state_of.ensures.same program s.0 s.1 (are.stored k s.0 s.1).place here c.if-is_in_state_of.true in
    (s.0, s.1, one-end (rest_of program s.0) (rest_of program c.args.place.now) s.2 asked state)

pub loop-index-preserved : goal.loop-index-preserved
loop-index-preserved c program are here m k p below at p_at same =
    let end : ℕ = c.index-end.result.now in
    let known = c.args.self.now.ends.items in
    let within : c.loop-index.index < length known = omega arith in
    let is : slice_get known c.loop-index.index ≡ Some end =
    slice_get-get_or known c.loop-index.index end within ∙ ap (λ (n : ℕ). Some n) (sym c.index-end.ensures) in
    elim (cases_lt m c.loop-index.index) [
      | inl earlier ↦ c.loop-index.invariant program are here m k p earlier at p_at same
      | inr most ↦
          let last : c.loop-index.index ≡ m = omega (arith, most, below) in
          let e : k ≡ end = same-some k end (sym at ∙ ap (slice_get c.args.self.now.ends.items) (sym last) ∙ is) in
          false≢true (sym c.if-is_in_state_of.false
          ∙ c.is_in_state_of.ensures.exact program p (ap (slice_get c.args.self.now.places.items) (sym e) ∙ p_at) (are.stored k p p_at).place here same)
    ]

pub returns-clause-none : goal.returns-clause-none
returns-clause-none c program are of here k p p_at asked same =
    let l = of.listed k p p_at asked in
    let within = slice_get_within c.args.self.now.ends.items l.0 k l.1 in
    c.loop-index.invariant program are here l.0 k p (omega (arith, within, c.loop-index-test.false)) l.1 p_at (ap (λ (r : Runs). state_in r) same)
