use Rattle.std.proofs.Common.{◌∙◌}
use Rattle.pam_render.proofs.PartsProofs.UnusedCounts.{numbers-are}
use Rattle.pam_render.proofs.parts.check.unused_number_at.Goals as goal

pub returns : goal.returns
returns c = c.lines_at.ensures ∙ numbers-are c.args.level c.args.unused.now
