-- the files so far, before those that are left
use Rattle.std.proofs.Common.{◌≡◌, ◌++◌, drop, map, zip}
use Rattle.pam_web.specs.Files.{file_view}
use Rattle.pam_web.proofs.answering.files_of.Given as goal

abbrev pub invariant-loop-position : goal.invariant-loop-position
invariant-loop-position l =
    map file_view l.files.items ++ zip (map (λ p. p.now) (drop l.position l.paths)) (map (λ c. c.now) (drop l.position l.contents))
    ≡ zip (map (λ p. p.now) l.paths) (map (λ c. c.now) l.contents)
