use Rattle.std.proofs.Common.{◌≡◌, ◌∙◌, ℕ, Some, ap, arith, inl, inr, refl, subst, sym, true}
use Rattle.std.proofs.lemmas.Bool.{cases_lt}
use Rattle.pam_codes.specs.Set.{is_in}
use Rattle.pam_dispatch.specs.Flat.{rest_of}
use Rattle.pam_compare.specs.Walks.{HaveOneOutcome}
use Rattle.pam_compare.specs.inner.Turn.{AreAlike}
use Rattle.pam_compare.proofs.Classes.{in-one, one-self, self-in}
use Rattle.pam_compare.proofs.node.class_of.Goals as goal

pub loop-number-init : goal.loop-number-init
loop-number-init c =
    let left = rest_of c.args.pair.now.old.now c.args.node.now.old in
    let right = rest_of c.args.pair.now.new.now c.args.node.now.new in
    let code = c.args.code in
    let is : (d : ℕ) → is_in d c.single-class.result ≡ true → code ≡ d = λ d h. in-one code d (sym (ap (is_in d) c.single-class.ensures) ∙ h) in
    record {
      alike = λ d low h. subst (λ (n : ℕ). AreAlike c.args.turn left right code n) (is d h) (refl, refl);
      same = λ d low h. subst (λ (n : ℕ). HaveOneOutcome c.args.turn left right code n) (is d h) (one-self c.args.turn left right code);
      all = λ d low below. absurd (omega (arith, below));
      own = λ low. ap (is_in code) c.single-class.ensures ∙ self-in code;
    }

pub loop-number-preserved : goal.loop-number-preserved
loop-number-preserved c =
    let inv = c.loop-number.invariant in
    let step = c.with_alike-class.ensures in
    let code = c.args.code in
    record {
      alike = step.alike code c.outcomes_of-outcomes.ensures inv.alike;
      same = step.same code c.outcomes_of-outcomes.ensures inv.same;
      all = λ d low below member one. elim (cases_lt d c.loop-number.number) [
        | inl earlier ↦ step.more d low (inv.all d low earlier member one)
        | inr most ↦
            let is : c.loop-number.number ≡ d = omega (arith, most, below) in
            step.all code d c.outcomes_of-outcomes.ensures
            (c.member.ensures (omega (arith, is, low)) (ap (λ (n : ℕ). is_in n c.args.left) is ∙ member) ∙ ap (λ (n : ℕ). Some n) is) low one
      ];
      own = λ low. step.more code low (inv.own low);
    }

pub returns-clause-all : goal.returns-clause-all
returns-clause-all c d low = c.loop-number.invariant.all d low (omega (arith, low, c.loop-number-test.false))
