-- the modules so far, then those that are left
use Rattle.std.proofs.Common.{◌≡◌, ◌≤◌, ◌++◌, length, map}
use Rattle.pam_findings.proofs.misspelled.right_words.first_of.Given as goal

abbrev pub invariant-loop-path : goal.invariant-loop-path
invariant-loop-path l = record {
  few : length l.modules.items ≤ 1000;
  all : map (λ m. m.now) l.modules.items ++ l.path-iterator ≡ l.paths;
}
