-- the names so far
use Rattle.std.proofs.Common.{◌≡◌, map, take}
use Rattle.pam_codes.specs.Code.{code_names}
use Rattle.pam_findings.proofs.misspelled.right_words.values.Given as goal

abbrev pub invariant-loop-number : goal.invariant-loop-number
invariant-loop-number l = map (λ w. w.now) l.words.items ≡ take l.number code_names
