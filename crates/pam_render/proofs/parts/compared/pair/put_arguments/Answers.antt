use Rattle.std.proofs.Common.{◌+◌, drop}
use Rattle.std.specs.List.{flat_map}
use Rattle.pam_changes.specs.declared.modules.MatchedPair.{MatchedPair}
use Rattle.pam_text.proofs.Writing.{err-front, front-is, front-longer, front-then}
use Rattle.pam_text.proofs.FlatTexts.{flat_map-at}
use Rattle.pam_render.specs.parts.Compared.{Arguments}
use Rattle.pam_render.specs.parts.ComparedView.{head_view}
use Rattle.pam_render.proofs.parts.compared.pair.put_arguments.Goals as goal

pub returns-in_err-put_line : goal.returns-in_err-put_line
returns-in_err-put_line g c =
    let matched = c.args.matched.now in
    let text = λ (m : MatchedPair). g.L.CompareLines.line (Arguments (head_view c.args.stack.head) c.args.stack.pair.now m) in
    let index = c.loop-modules.modules-index in
    err-front _ c.from_residual.ensures.0
    (front-is (front-longer (flat_map text (drop (index + 1) matched)) (front-then c.loop-modules.invariant c.in_err-put_line.ensures))
    (flat_map-at text matched index _ c.loop-modules-test.true))
