use Rattle.std.proofs.Common.{◌∙◌, ap, arith, eqb-true, sym}
use Rattle.pam_paths.specs.declared.path.PathStep.{PathStep}
use Rattle.pam_paths.proofs.BoundedLists.{ends-same}
use Rattle.pam_paths.proofs.frames.ends_with.Goals as goal

pub returns-else-settled-eq0-clause-same : goal.returns-else-settled-eq0-clause-same
returns-else-settled-eq0-clause-same c told =
    let x = c.index-steps-count in
    let y = c.index-tail-0 in
    let same = ap (λ (s : PathStep). s.number) x.is ∙ eqb-true _ _ told ∙ sym (ap (λ (s : PathStep). s.number) y.is) in
    ends-same c.args.steps.now c.args.tail.now c.args.count c.args.settled x.result y.result c.requires.end c.requires.tail c.if-tail-settled.false
    c.if-steps-settled.false (omega (arith, c.if-settled-eq0.false)) same x.is y.is
