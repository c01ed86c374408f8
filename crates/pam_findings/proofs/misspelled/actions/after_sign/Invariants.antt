use Rattle.std.proofs.Common.{◌≡◌, ◌++◌, map, take}
use Rattle.pam_findings.specs.misspelled.Actions.{number_words, other_actions}
use Rattle.pam_findings.proofs.misspelled.actions.after_sign.Given as goal

-- the words so far
abbrev pub invariant-loop-place : goal.invariant-loop-place
invariant-loop-place l = map (λ w. w.now) l.words.items ≡ other_actions ++ take l.place number_words
