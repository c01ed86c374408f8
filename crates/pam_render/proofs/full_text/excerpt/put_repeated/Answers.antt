use Rattle.std.proofs.Common.{◌+◌, ◌-◌}
use Rattle.std.specs.Prelude.{replicate}
use Rattle.pam_codes.proofs.Writing.{all-is, all-then, err-front, front-is, front-longer, front-then}
use Rattle.pam_render.proofs.FullTextProofs.Repeats.{repeat-at, repeat-more}
use Rattle.pam_render.proofs.full_text.excerpt.put_repeated.Goals as goal

pub returns-in_err-put : goal.returns-in_err-put
returns-in_err-put g c =
    err-front _ c.from_residual.ensures.0
    (front-is (front-longer (replicate (c.args.count - (c.loop.counter + 1)) c.args.byte) (front-then c.loop.invariant c.in_err-put.ensures))
    (repeat-at c.loop.counter c.args.count c.args.byte c.loop-test.true))

pub loop-preserved : goal.loop-preserved
loop-preserved g c = all-is (all-then c.loop.invariant c.in_ok-put.ensures) (repeat-more c.loop.counter c.args.byte)
