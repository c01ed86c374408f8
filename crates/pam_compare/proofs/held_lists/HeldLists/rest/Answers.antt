use Rattle.std.proofs.Common.{◌≡◌, ◌∙◌, ℕ, List, [], arith, drop, subst, sym}
use Rattle.pam_compare.specs.declared.held.HeldAnswer.{HeldAnswer}
use Rattle.pam_compare.specs.inner.HeldLists.{IsListed}
use Rattle.pam_compare.proofs.Growing.{nothing}
use Rattle.pam_compare.proofs.Lists.{listed-none, listed-rest, listed-start, listed-step}
use Rattle.pam_compare.proofs.held_lists.HeldLists.rest.Goals as goal

pub returns-then-number-eq0 : goal.returns-then-number-eq0
returns-then-number-eq0 c held is =
    let links = c.args.self.now.links.keys in
    let zero : c.args.number ≡ 0 = omega arith in
    let none : held ≡ [] = listed-start links held (subst (λ (n : ℕ). IsListed links n held) zero is) in
    subst (λ (l : List HeldAnswer). IsListed links 0 (drop 1 l)) (sym none) (listed-none links)

pub returns-in-Some : goal.returns-in-Some
returns-in-Some c held is = listed-rest c.args.self.now.links.keys c.args.number held _ (omega arith) is (sym c.in-Some.ensures.key)

pub returns-in-None : goal.returns-in-None
returns-in-None c held is =
    let step = listed-step c.args.self.now.links.keys c.args.number held (omega arith) is in
    absurd (nothing step.0 (c.in-None.ensures.key ∙ step.2))
