use Rattle.pam_changes.specs.Sides.{sides_view}
use Rattle.pam_changes.specs.declared.stacks.StackChange.TheVariants as changes
use Rattle.pam_changes.proofs.Stacked.{adds-none}
use Rattle.pam_changes.proofs.Told.{tells-none}
use Rattle.pam_changes.proofs.stacks.Comparer.change.Goals as goal

pub returns-then-are_there_alike-clause-adds : goal.returns-then-are_there_alike-clause-adds
returns-then-are_there_alike-clause-adds c = adds-none (sides_view c.args.self.now.sides.now) c.args.found.now

pub returns-then-are_there_alike-clause-told : goal.returns-then-are_there_alike-clause-told
returns-then-are_there_alike-clause-told c = tells-none c.args.found.now.pairs.items c.args.stacks.service changes.Same
