use Rattle.std.proofs.Common.{◌≡◌, ◌+◌, ◌<◌, ◌∙◌, ap, arith, length, sym, ℕ}
use Rattle.std.proofs.lemmas.List.{get_or_default}
use Rattle.pam_page.proofs.TailTexts.{steps-none, steps-within}
use Rattle.pam_page.specs.inner.TailTexts.{steps_to}
use Rattle.pam_page.proofs.tail_texts.TailTexts.end.Goals as goal

pub returns-in-Some-clause-within : goal.returns-in-Some-clause-within
returns-in-Some-clause-within c =
    let ends = c.self.inside.ends.items in
    let inside : c.in-Some.index < length ends = omega (arith, c.in-Some.ensures.0, c.in-Some.ensures.1, c.requires, c.self.view_is) in
    let next : c.in-Some.index + 1 ≡ c.args.count = omega (arith, c.in-Some.ensures.0, c.in-Some.ensures.1) in
    let is = c.index.ensures ∙ sym (get_or_default ends c.in-Some.index 0 c.index.result.now inside) ∙ c.self.invariant.ends c.in-Some.index inside
    ∙ ap (λ (n : ℕ). length (steps_to n)) next in
    omega (arith, is, steps-within c.args.self.now c.args.count c.requires)

pub returns-in-None-clause-end : goal.returns-in-None-clause-end
returns-in-None-clause-end c =
    let none : c.args.count ≡ 0 = omega (arith, c.in-None.ensures) in
    sym (steps-none c.args.count none)
