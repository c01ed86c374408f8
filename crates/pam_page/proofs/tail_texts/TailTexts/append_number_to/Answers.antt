use Rattle.std.proofs.Common.{◌∙◌, ◌++◌, List, ap, arith, cond, refl, ℕ}
use Rattle.pam_page.proofs.TailTexts.{number-between}
use Rattle.pam_page.specs.inner.TailTexts.{steps_to}
use Rattle.pam_page.proofs.tail_texts.TailTexts.append_number_to.Goals as goal

pub overflow_sub-end : goal.overflow_sub-end
overflow_sub-end c =
    omega (
      arith,
      (number-between c.args.self.now c.args.number c.end-start.result c.end.result (steps_to c.args.self.now) refl c.requires.first c.requires.within
          c.end-start.ensures.end c.end.ensures.end).1,
    )

pub append_part-requires-clause-order : goal.append_part-requires-clause-order
append_part-requires-clause-order c =
    omega (
      arith,
      (number-between c.args.self.now c.args.number c.end-start.result c.end.result (steps_to c.args.self.now) refl c.requires.first c.requires.within
          c.end-start.ensures.end c.end.ensures.end).1,
    )

pub returns : goal.returns
returns c =
    let steps = c.args.steps.now in
    c.append_part.ensures
    ∙ ap (λ (l : List ℕ). cond c.append_part.result (steps ++ l) steps)
    (number-between c.args.self.now c.args.number c.end-start.result c.end.result c.self.inside.steps
    (c.self.invariant.steps ∙ ap steps_to c.self.view_is) c.requires.first c.requires.within c.end-start.ensures.end c.end.ensures.end).0
