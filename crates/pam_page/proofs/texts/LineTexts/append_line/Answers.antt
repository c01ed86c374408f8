use Rattle.std.proofs.Common.{◌≡◌, ◌+◌, ◌-◌, ◌++◌, ◌∙◌, List, ap, arith, length, sym, ℕ}
use Rattle.std.specs.List.{flat_map}
use Rattle.pam_paths.specs.Tail.{tail_from}
use Rattle.pam_page.specs.inner.KeptSteps.{code_text}
use Rattle.pam_page.specs.Page.{step_text}
use Rattle.pam_page.proofs.TailTexts.{codes-same}
use Rattle.pam_page.proofs.KeptTexts.{own_count, whole_text}
use Rattle.pam_page.proofs.texts.LineTexts.append_line.Goals as goal

pub append_line-requires-clause-cursor : goal.append_line-requires-clause-cursor
append_line-requires-clause-cursor c =
    let tail = c.tail-tail.result.now in
    let shown = c.codes.ensures ∙ codes-same 1 (c.in-Some.before + 1) (length tail) ∙ ap (flat_map code_text) (sym c.in-Some.ensures.tail) in
    ap (λ (l : List ℕ). c.self.inside.cursor ++ l) shown
    ∙ whole_text code_text c.self.inside.kept.items c.args.self.now c.args.path.now.steps c.tail-tail.result.now c.self.inside.cursor
    c.self.invariant.cursor c.self.view_is c.requires.kept c.tail-tail.ensures.last
    (own_count c.self.inside.kept.items c.args.self.now c.args.path.now.steps c.steps.result.now c.tail-tail.result.now c.len.result c.self.view_is
    c.steps.ensures (omega (arith, c.len.ensures, c.self.inside.kept.ok)) (omega (arith, c.if-len-steps.false)))

pub append_line-requires-clause-steps : goal.append_line-requires-clause-steps
append_line-requires-clause-steps c =
    let tail = c.tail-tail.result.now in
    let count : c.in-Some.last - c.in-Some.before ≡ length tail = omega (arith, c.in-Some.ensures.count) in
    let shown = c.steps-2.ensures ∙ ap (λ (n : ℕ). flat_map step_text (tail_from (c.in-Some.before + 1) n)) count
    ∙ ap (flat_map step_text) (sym c.in-Some.ensures.tail) in
    ap (λ (l : List ℕ). c.self.inside.steps ++ l) shown
    ∙ whole_text step_text c.self.inside.kept.items c.args.self.now c.args.path.now.steps c.tail-tail.result.now c.self.inside.steps
    c.self.invariant.steps c.self.view_is c.requires.kept c.tail-tail.ensures.last
    (own_count c.self.inside.kept.items c.args.self.now c.args.path.now.steps c.steps.result.now c.tail-tail.result.now c.len.result c.self.view_is
    c.steps.ensures (omega (arith, c.len.ensures, c.self.inside.kept.ok)) (omega (arith, c.if-len-steps.false)))
