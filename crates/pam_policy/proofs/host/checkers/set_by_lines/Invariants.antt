use Rattle.std.proofs.Common.{◌≤◌, ◌<◌, ℕ, List, [], unwrap_or}
use Rattle.pam_conf.specs.Stack.{module_count}
use Rattle.pam_facts.specs.Answers.{Allows}
use Rattle.pam_facts.specs.known.Tables.{tables_view}
use Rattle.pam_facts.proofs.Replaced.{So}
use Rattle.pam_paths.specs.Known.{may_answer}
use Rattle.pam_policy.specs.host.Answers.{checked_with}
use Rattle.pam_policy.proofs.host.checkers.set_by_lines.Given as goal

-- of the modules so far, those that check have no ignore, and the others what they had
abbrev pub invariant-loop-index : goal.invariant-loop-index
invariant-loop-index l =
    (base : ℕ → List ℕ) → Allows (module_count l.stack) l.fn.known base → (number code : ℕ) → 1 ≤ number → number ≤ module_count l.stack → code < 31 →
    So (checked_with (tables_view l.tables) (unwrap_or l.lines []) l.stack) base (may_answer l.known) l.index number code
