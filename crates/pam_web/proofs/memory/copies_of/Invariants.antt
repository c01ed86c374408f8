-- the copies are of the names so far
use Rattle.std.proofs.Common.{◌≡◌, map, take}
use Rattle.pam_web.proofs.memory.copies_of.Given as goal

abbrev pub invariant-loop-name : goal.invariant-loop-name
invariant-loop-name l = map (λ c. c.items) l.copies.items ≡ map (λ n. n.now) (take l.name-index l.names)
