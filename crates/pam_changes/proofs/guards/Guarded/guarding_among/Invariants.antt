use Rattle.std.proofs.Common.{◌≡◌, ◌++◌, drop, filter_map}
use Rattle.pam_changes.specs.Guards.{guarding}
use Rattle.pam_changes.specs.Sides.{side_view}
use Rattle.pam_changes.proofs.guards.Guarded.guarding_among.Given as goal

-- the modules so far, and those of the numbers that are left
abbrev pub invariant-loop-number : goal.invariant-loop-number
invariant-loop-number l =
    let of_stack = guarding l.self.facts.now (side_view l.self.side.now) l.self.kind l.self.stack.now in
    l.found.items ++ filter_map of_stack (drop l.number-index l.numbers) ≡ filter_map of_stack l.numbers
