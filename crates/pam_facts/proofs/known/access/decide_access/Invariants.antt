use Rattle.std.proofs.Common.{◌+◌, ◌<◌, ◌≡◌}
use Prim.Native.Nat.{◌^◌}
use Rattle.pam_tables.specs.Login.{login_view}
use Rattle.pam_facts.specs.known.Access.{tables_decide}
use Rattle.pam_facts.proofs.KnownProofs.AccessSteps.{decide_after}
use Rattle.pam_facts.proofs.known.access.decide_access.Given as goal

-- the remaining tables decide, after those that were read, what all decide
abbrev pub invariant-loop-index : goal.invariant-loop-index
invariant-loop-index l =
    (goal.iterator-loop-index).can_next l.bytes-iterator × (goal.iterator-loop-index).is_finite l.bytes-iterator
    × (l.index + (goal.iterator-loop-index).remaining l.bytes-iterator < 2 ^ 64)
    × (decide_after (login_view l.login) l.groups l.options l.index l.decided l.bytes-iterator
    ≡ tables_decide (login_view l.login) l.groups l.options l.tables)
