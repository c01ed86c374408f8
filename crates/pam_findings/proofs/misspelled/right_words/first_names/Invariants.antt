use Rattle.std.proofs.Common.{◌≡◌, map, take}
use Rattle.pam_findings.proofs.misspelled.right_words.first_names.Given as goal

-- the names so far
abbrev pub invariant-loop-position : goal.invariant-loop-position
invariant-loop-position l = map (λ name. name.now) l.names.items ≡ take l.position (map (λ f. f.0) l.files.entries)
