use Rattle.std.proofs.Common.{◌+◌, ◌-◌, arith}
use Rattle.pam_web.proofs.Filled.{put_part}
use Rattle.pam_web.proofs.put.Goals as goal

pub returns-clause-after : goal.returns-clause-after
returns-clause-after c =
    put_part c.args.start c.min-count.result ((c.args.start + c.min-count.result) - c.args.start) c.min-count.result c.args.from.now c.args.room.now
    c.copy_from_slice.new.self c.min-count.ensures (omega arith) (omega arith) c.copy_from_slice.ensures.after
