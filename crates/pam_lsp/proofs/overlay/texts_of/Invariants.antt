-- the texts have the bytes so far
use Rattle.std.proofs.Common.{◌≡◌, map, string_bytes, take}
use Rattle.pam_lsp.proofs.overlay.texts_of.Given as goal

abbrev pub invariant-loop-bytes : goal.invariant-loop-bytes
invariant-loop-bytes l = map string_bytes l.texts.items ≡ map (λ b. b.items) (take l.bytes-index l.all)
