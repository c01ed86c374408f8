use Rattle.std.proofs.Common.{◌≡◌, ◌<◌, ◌∙◌, ℕ, true, Some, ap, arith, inl, inr, length, subst, sym}
use Rattle.std.specs.Prelude.{slice_get}
use Rattle.std.proofs.lemmas.Bool.{cases_lt}
use Rattle.std.proofs.lemmas.Option.{slice_get-get_or, slice_get_within}
use Rattle.pam_codes.specs.Set.{is_in}
use Rattle.pam_compare.specs.declared.held.HeldAnswer.{HeldAnswer}
use Rattle.pam_compare.proofs.Holding.{holds-at, some-held}
use Rattle.pam_compare.proofs.held.held_codes.Goals as goal

pub loop-index-preserved : goal.loop-index-preserved
loop-index-preserved c =
    let inv = c.loop-index.invariant in
    let step = c.codes_left-left.ensures in
    let held = c.args.held.now in
    let k = c.loop-index.index in
    let answer = c.index-held-index.result in
    let within : k < length held = omega arith in
    let there : slice_get held k ≡ Some answer = slice_get-get_or held k answer within ∙ ap (λ (x : HeldAnswer). Some x) (sym c.index-held-index.is) in
    record {
      kept = λ a low h member. step.kept (a c.args.name) low (inv.kept a low h member) (λ same.
          let here : is_in (a answer.name) answer.codes ≡ true =
          subst (λ (y : HeldAnswer). is_in (a y.name) y.codes ≡ true) (sym c.index-held-index.is) (holds-at a held k answer within h) in
          subst (λ (n : ℕ). is_in (a n) answer.codes ≡ true) same here);
      within = λ x h. inv.within x (step.within x h);
      left = λ i h below at same x member. elim (cases_lt k i) [
        | inl above ↦ absurd (omega arith)
        | inr most ↦ elim (cases_lt i k) [
          | inl earlier ↦ inv.left i h earlier at same x (step.within x member)
          | inr least ↦
              let is : i ≡ k = omega arith in
              let e : answer ≡ h = some-held answer h (sym there ∙ ap (λ (n : ℕ). slice_get held n) (sym is) ∙ at) in
              subst (λ (y : HeldAnswer). is_in x y.codes ≡ true) e (step.left (ap (λ (y : HeldAnswer). y.name) e ∙ same) x member)
        ]
      ];
      all = λ x low member leaves. step.kept x low (inv.all x low member leaves) (λ same. leaves k answer there same);
    }

pub returns-clause-left : goal.returns-clause-left
returns-clause-left c i h at same =
    let within = slice_get_within c.args.held.now i h at in
    c.loop-index.invariant.left i h (omega (arith, within)) at same
