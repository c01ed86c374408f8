-- of the files that are left, one begins so if one of all does
use Rattle.std.proofs.Common.{◌≡◌, drop, map}
use Rattle.std.specs.List.{list_any}
use Rattle.pam_web.specs.Files.{begins, file_view}
use Rattle.pam_web.proofs.entries.is_any_below.Given as goal

abbrev pub invariant-loop-file : goal.invariant-loop-file
invariant-loop-file l =
    list_any (λ f. begins l.start f.0) (map file_view (drop l.file-index l.files)) ≡ list_any (λ f. begins l.start f.0) (map file_view l.files)
