use Rattle.std.proofs.Common.{refl}
use Rattle.pam_changes.specs.Sides.{sides_view}
use Rattle.pam_changes.proofs.Stacked.{found-more}
use Rattle.pam_changes.proofs.stacks.Comparer.add_change.Goals as goal

pub returns : goal.returns
returns c names asked there found =
    found-more (sides_view c.args.self.now.sides.now) names asked c.args.found.now c.change_in.new.found _
    (record { service = c.args.service; kind = c.args.kind; change = c.in_ok-change.change }) c.args.name.now there c.in_ok-change.ensures.adds
    c.in_ok-change.ensures.change c.in_ok-change.ensures.told refl c.in_ok-push.ensures.items found
