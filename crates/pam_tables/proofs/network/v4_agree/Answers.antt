use Rattle.pam_tables.proofs.BitSteps.{masked_agree}
use Rattle.pam_tables.proofs.network.v4_agree.Goals as goal

pub returns : goal.returns
returns c = masked_agree 32 c.args.first c.args.second c.args.mask c.ranges.mask.fits
