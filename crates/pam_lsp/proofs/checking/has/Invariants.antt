-- of the texts that are left, one is the text if one of all is
use Rattle.std.proofs.Common.{◌≡◌, drop, map, string_bytes}
use Rattle.pam_lsp.specs.Checks.{has}
use Rattle.pam_lsp.proofs.checking.has.Given as goal

abbrev pub invariant-loop-other : goal.invariant-loop-other
invariant-loop-other l = has l.text (map string_bytes (drop l.other-index l.texts)) ≡ has l.text (map string_bytes l.texts)
