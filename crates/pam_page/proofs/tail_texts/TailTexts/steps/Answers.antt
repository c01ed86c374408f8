use Rattle.std.proofs.Common.{◌∙◌, ap, arith, length}
use Rattle.pam_page.proofs.TailTexts.{steps-between, steps-within}
use Rattle.pam_page.specs.inner.TailTexts.{steps_to}
use Rattle.pam_page.proofs.tail_texts.TailTexts.steps.Goals as goal

pub slice_bounds-result-count : goal.slice_bounds-result-count
slice_bounds-result-count c = omega (arith, c.end-start.ensures.end, c.end-end.ensures.end, steps-within c.args.last c.args.before c.requires.order)

pub slice_bounds-result-start : goal.slice_bounds-result-start
slice_bounds-result-start c =
    let all = ap length (c.as_slice.ensures ∙ c.self.invariant.steps ∙ ap steps_to c.self.view_is) in
    omega (
      arith,
      c.end-start.ensures.within,
      c.end-end.ensures.within,
      c.end-start.ensures.end,
      c.end-end.ensures.end,
      all,
      steps-within c.args.last c.args.before c.requires.order,
    )

pub returns : goal.returns
returns c =
    steps-between c.args.self.now c.args.before c.args.last c.end-start.result c.end-end.result _ _ (c.self.invariant.steps ∙ ap steps_to c.self.view_is)
    c.as_slice.ensures c.requires.order c.requires.within c.end-start.ensures.end c.end-end.ensures.end
