use Rattle.pam_tables.specs.Groups.{groups_of}
use Rattle.pam_tables.proofs.groups.Groups.read.Goals as goal

pub returns : goal.returns
unfolding groups_of
returns c = c.read_entries.ensures
