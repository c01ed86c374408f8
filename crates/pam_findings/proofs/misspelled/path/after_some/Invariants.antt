use Rattle.std.proofs.Common.{◌≡◌, ◌≤◌, drop}
use Rattle.pam_conf.specs.Remaining.{words_to_come}
use Rattle.pam_findings.proofs.misspelled.path.after_some.Given as goal

-- the remaining words are those after the first `counter`
abbrev pub invariant-loop : goal.invariant-loop
invariant-loop l = (l.counter ≤ l.number) × (words_to_come l.rest ≡ drop l.counter (words_to_come l.words))
