use Rattle.pam_codes.proofs.SetAlgebra.{LastBelow, last_below, none_below, last-found, last-after}
use Rattle.pam_codes.proofs.set.CodeSet.greatest_below.Goals as goal

pub returns-then-bits-eq0-clause-none : goal.returns-then-bits-eq0-clause-none
returns-then-bits-eq0-clause-none c = rw (← c.self.view_is) (none_below c.self.inside.bits c.args.last (rw c.bits_below.ensures at c.if-bits-eq0.true))

last : (c : goal.After-new) → LastBelow c.args.last c.args.self c.new.result
last c = rw (c.new.ensures, ← c.self.view_is) (last_below c.self.inside.bits c.args.last c.ilog2.result c.self.invariant
    (rw c.bits_below.ensures at c.ilog2.ensures.power_le) (rw c.bits_below.ensures at c.ilog2.ensures.next_power_gt))

pub returns-clause-found : goal.returns-clause-found
returns-clause-found c = last-found c.args.last c.args.self c.new.result (last c)

pub returns-clause-after : goal.returns-clause-after
returns-clause-after c = last-after c.args.last c.args.self c.new.result (last c)
