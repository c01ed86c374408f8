use Rattle.std.proofs.Common.{◌-◌, ◌+◌, sym}
use Rattle.pam_codes.proofs.Writing.{all-is, all-none, all-then, err-front, front-is, front-longer, front-then}
use Rattle.pam_render.proofs.TextProofs.ShowTexts.{indent-zero, indent-more, indent-at}
use Rattle.pam_render.specs.text.Show.{indent}
use Rattle.pam_render.proofs.text.show.put_indent.Goals as goal

pub loop-init : goal.loop-init
loop-init g c = all-is (all-none c.args.out.now) (sym indent-zero)

pub returns-in_err-put : goal.returns-in_err-put
returns-in_err-put g c =
    err-front _ c.from_residual.ensures.0
    (front-is (front-longer (indent (c.args.level - (c.loop.counter + 1))) (front-then c.loop.invariant c.in_err-put.ensures))
    (indent-at c.loop.counter c.args.level c.loop-test.true))

pub loop-preserved : goal.loop-preserved
loop-preserved g c = all-is (all-then c.loop.invariant c.in_ok-put.ensures) (indent-more c.loop.counter)
