use Rattle.std.proofs.Common.{◌≤◌, ◌<◌, ℕ, List}
use Rattle.std.specs.Option.{option_map}
use Rattle.pam_conf.specs.Stack.{module_count}
use Rattle.pam_facts.specs.Answers.{Allows}
use Rattle.pam_facts.specs.Missing.{missing_at}
use Rattle.pam_facts.proofs.Replaced.{So}
use Rattle.pam_paths.specs.Known.{may_answer}
use Rattle.pam_facts.proofs.missing.set_missing.Given as goal

-- the modules so far that are not there have their codes, and the others what they had
abbrev pub invariant-loop-index : goal.invariant-loop-index
invariant-loop-index l =
    (codes : ℕ → List ℕ) → Allows (module_count l.stack) l.fn.known codes → (number code : ℕ) → 1 ≤ number → number ≤ module_count l.stack → code < 31 →
    So (missing_at (option_map (λ t. t.now) l.there) l.stack) codes (may_answer l.known) l.index number code
