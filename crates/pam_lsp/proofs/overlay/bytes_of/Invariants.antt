-- the bytes are those of the texts so far
use Rattle.std.proofs.Common.{◌≡◌, map, string_bytes, take}
use Rattle.pam_lsp.proofs.overlay.bytes_of.Given as goal

abbrev pub invariant-loop-text : goal.invariant-loop-text
invariant-loop-text l = map (λ b. b.items) l.all.items ≡ map string_bytes (take l.text-index l.texts)
