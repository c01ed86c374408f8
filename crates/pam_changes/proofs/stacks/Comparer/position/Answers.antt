use Rattle.pam_changes.specs.Sides.{sides_view}
use Rattle.pam_changes.specs.declared.stacks.StackChange.TheVariants as changes
use Rattle.pam_changes.proofs.Stacked.{adds-none, adds-one, has-items, last-at}
use Rattle.pam_changes.proofs.Told.{tells-none, tells-one}
use Rattle.pam_changes.proofs.stacks.Comparer.position.Goals as goal

pub returns-in-Some-clause-adds : goal.returns-in-Some-clause-adds
returns-in-Some-clause-adds c = adds-none (sides_view c.args.self.now.sides.now) c.args.found.now

pub returns-in-Some-clause-told : goal.returns-in-Some-clause-told
returns-in-Some-clause-told c = tells-none c.args.found.now.pairs.items c.args.stacks.service (changes.Differs c.in-Some.position)

pub returns-clause-adds : goal.returns-clause-adds
returns-clause-adds c =
    adds-one (sides_view c.args.self.now.sides.now) c.args.found.now _ c.in_ok-pair.pair c.in_ok-position.ensures.pairs c.in_ok-position.ensures.stacks
    c.in_ok-pair.ensures.pair

pub returns-clause-pair : goal.returns-clause-pair
returns-clause-pair c =
    has-items c.args.stacks.kind c.args.stacks.old c.args.stacks.new c.in_ok-pair.pair _
    (last-at c.args.found.now.pairs.items _ c.in_ok-pair.pair c.in_ok-position.position c.in_ok-position.ensures.pairs c.in_ok-position.ensures.position)
    c.in_ok-pair.ensures.kind c.in_ok-pair.ensures.old c.in_ok-pair.ensures.new

pub returns-clause-told : goal.returns-clause-told
returns-clause-told c =
    tells-one c.args.found.now.pairs.items _ c.in_ok-pair.pair c.in_ok-position.position c.in_ok-position.ensures.pairs
    c.in_ok-position.ensures.position c.args.stacks.service c.in_ok-pair.ensures.service
