use Rattle.std.proofs.Common.{ap, sym}
use Rattle.pam_changes.specs.Changes.{fault_in}
use Rattle.pam_changes.specs.Sides.{sides_view}
use Rattle.pam_changes.proofs.Stacked.{adds-none}
use Rattle.pam_changes.proofs.Told.{tells-none}
use Rattle.pam_changes.proofs.stacks.Comparer.change_of.Goals as goal

pub returns-in-Err-new-clause-adds : goal.returns-in-Err-new-clause-adds
returns-in-Err-new-clause-adds c = adds-none (sides_view c.args.self.now.sides.now) c.args.found.now

pub returns-in-Err-new-clause-change : goal.returns-in-Err-new-clause-change
returns-in-Err-new-clause-change c =
    c.refused.ensures (sides_view c.args.self.now.sides.now) c.args.found.now.pairs.items c.args.kind c.args.old c.args.new
    (sym (ap fault_in c.in-Ok.is)) (sym (ap fault_in c.in-Err-new.is))

pub returns-in-Err-new-clause-told : goal.returns-in-Err-new-clause-told
returns-in-Err-new-clause-told c = tells-none c.args.found.now.pairs.items c.args.service c.refused.result

pub returns-in-Err-clause-adds : goal.returns-in-Err-clause-adds
returns-in-Err-clause-adds c = adds-none (sides_view c.args.self.now.sides.now) c.args.found.now

pub returns-in-Err-clause-change : goal.returns-in-Err-clause-change
returns-in-Err-clause-change c =
    c.refused-in-Err.ensures (sides_view c.args.self.now.sides.now) c.args.found.now.pairs.items c.args.kind c.args.old c.args.new
    (sym (ap fault_in c.in-Err.is)) c.fault_of.ensures

pub returns-in-Err-clause-told : goal.returns-in-Err-clause-told
returns-in-Err-clause-told c = tells-none c.args.found.now.pairs.items c.args.service c.refused-in-Err.result
