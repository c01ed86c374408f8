use Rattle.std.proofs.Common.{ap}
use Rattle.arrayvec.specs.ArrayVec.{ArrayVec}
use Rattle.pam_paths.specs.declared.frames.Frame.{Frame}
use Rattle.pam_paths.proofs.BoundedLists.{row-followed}
use Rattle.pam_paths.proofs.frames.BoundedList+Frame.follow.Goals as goal

pub returns : goal.returns
returns c frame at =
    let e = c.follow.ensures in
    row-followed c.self.inside.cells c.args.self.now.items c.self.inside.count (ap (λ (v : ArrayVec Frame). v.items) c.self.view_is) c.args.index
    c.requires frame c.index-cells-index.result c.follow.new.self c.args.branch.now at e.place e.number e.code e.class e.classes
