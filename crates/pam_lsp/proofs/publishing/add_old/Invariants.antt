-- the files that are left go to those so far
use Rattle.std.proofs.Common.{◌≡◌, drop, fold, map, string_bytes}
use Rattle.pam_lsp.specs.Checks.{with_new}
use Rattle.pam_lsp.proofs.publishing.add_old.Given as goal

abbrev pub invariant-loop-file : goal.invariant-loop-file
invariant-loop-file l =
    fold with_new (map string_bytes l.files.items) (map string_bytes (drop l.file-index l.old))
    ≡ fold with_new (map string_bytes l.initial.files.items) (map string_bytes l.old)
