-- the names that are found, before those of the files that are left
use Rattle.std.proofs.Common.{◌≡◌, ◌++◌, drop, map}
use Rattle.pam_web.specs.Files.{file_view, names_after}
use Rattle.pam_web.proofs.entries.names_after.Given as goal

abbrev pub invariant-loop-file : goal.invariant-loop-file
invariant-loop-file l =
    map (λ n. n.now) l.names.items ++ names_after l.start (map file_view (drop l.file-index l.files)) ≡ names_after l.start (map file_view l.files)
