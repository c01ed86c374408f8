use Rattle.std.proofs.Common.{◌≡◌, drop}
use Rattle.std.specs.Prelude.{fold}
use Rattle.pam_policy.specs.host.Places.{with_class}
use Rattle.pam_policy.proofs.host.spoken_places.add_each.Given as goal

-- the positions so far, with those that are left
abbrev pub invariant-loop-position : goal.invariant-loop-position
invariant-loop-position l = fold with_class l.positions.keys (drop l.position-index l.more) ≡ fold with_class l.fn.positions.keys l.more
