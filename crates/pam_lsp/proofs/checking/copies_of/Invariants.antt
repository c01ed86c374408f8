-- the copies are of the words so far
use Rattle.std.proofs.Common.{◌≡◌, map, string_bytes, take}
use Rattle.pam_lsp.proofs.checking.copies_of.Given as goal

abbrev pub invariant-loop-word : goal.invariant-loop-word
invariant-loop-word l = map string_bytes l.copies.items ≡ map (λ w. w.now) (take l.word-index l.words)
