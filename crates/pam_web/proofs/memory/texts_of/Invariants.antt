-- the texts are the names so far
use Rattle.std.proofs.Common.{◌≡◌, map, string_bytes, take}
use Rattle.pam_web.proofs.memory.texts_of.Given as goal

abbrev pub invariant-loop-name : goal.invariant-loop-name
invariant-loop-name l = map string_bytes l.texts.items ≡ map (λ n. n.now) (take l.name-index l.names)
