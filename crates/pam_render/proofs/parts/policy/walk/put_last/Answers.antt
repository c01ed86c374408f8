use Rattle.std.proofs.Common.{refl}
use Rattle.pam_text.proofs.Writing.{writes-is}
use Rattle.pam_render.proofs.PartsProofs.PolicyLines.{last-is}
use Rattle.pam_render.proofs.parts.policy.walk.put_last.Goals as goal

pub returns : goal.returns
returns g c =
    writes-is _ _ _ _ _ _ c.put_line.ensures
    (last-is g.L.PolicyLines.line c.args.rules.now c.args.found.now c.args.stacks _ _ refl c.counts_of-counts.ensures)
