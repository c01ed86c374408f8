use Rattle.std.proofs.Common.{◌-◌}
use Rattle.pam_paths.proofs.KnownCodes.{none_at}
use Rattle.pam_policy.proofs.search.marks.Marks.new.Goals as goal

pub returns : goal.returns
returns c number = none_at 256 (number - 1) c.empty.result c.empty.ensures
