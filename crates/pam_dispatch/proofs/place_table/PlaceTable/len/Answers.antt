use Rattle.std.proofs.Common.{subst}
use Rattle.pam_dispatch.specs.Keys.{AreDifferent}
use Rattle.pam_dispatch.proofs.Keys.{distinct-different}
use Rattle.pam_dispatch.proofs.place_table.PlaceTable.len.Goals as goal

pub returns-clause-different : goal.returns-clause-different
returns-clause-different c = subst AreDifferent c.self.view_is (distinct-different c.self.inside.keys.keys c.len.ensures.unique)
