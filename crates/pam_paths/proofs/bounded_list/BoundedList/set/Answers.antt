use Rattle.std.proofs.Common.{ap}
use Rattle.arrayvec.specs.ArrayVec.{ArrayVec}
use Rattle.pam_paths.proofs.BoundedLists.{row-set}
use Rattle.pam_paths.proofs.bounded_list.BoundedList.set.Goals as goal

pub returns-clause-items : goal.returns-clause-items
returns-clause-items g c =
    row-set c.self.inside.cells c.args.self.now.items c.self.inside.count (ap (λ (v : ArrayVec g.row.T.Denot). v.items) c.self.view_is) c.args.index
    c.requires c.args.element
