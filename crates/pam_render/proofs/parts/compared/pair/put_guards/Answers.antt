use Rattle.std.proofs.Common.{◌+◌, drop}
use Rattle.std.specs.List.{flat_map}
use Rattle.pam_changes.specs.declared.guards.GuardingModule.{GuardingModule}
use Rattle.pam_text.proofs.Writing.{err-front, front-is, front-longer, front-then}
use Rattle.pam_text.proofs.FlatTexts.{flat_map-at}
use Rattle.pam_render.specs.parts.Compared.{Guard}
use Rattle.pam_render.specs.parts.ComparedView.{stack_view}
use Rattle.pam_render.proofs.parts.compared.pair.put_guards.Goals as goal

pub returns-in_err-put_line : goal.returns-in_err-put_line
returns-in_err-put_line g c =
    let guards = c.args.guards.now in
    let text = λ (m : GuardingModule). g.L.CompareLines.line (Guard (stack_view c.args.stack) m) in
    let index = c.loop-guarding.guarding-index in
    err-front _ c.from_residual.ensures.0
    (front-is (front-longer (flat_map text (drop (index + 1) guards)) (front-then c.loop-guarding.invariant c.in_err-put_line.ensures))
    (flat_map-at text guards index _ c.loop-guarding-test.true))
