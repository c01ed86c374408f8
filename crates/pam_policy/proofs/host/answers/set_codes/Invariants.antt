use Rattle.std.proofs.Common.{◌≤◌, ◌<◌, ℕ, List, map}
use Rattle.pam_conf.specs.Stack.{module_count}
use Rattle.pam_facts.specs.Answers.{Allows}
use Rattle.pam_facts.specs.settings.Settings.{setting_view}
use Rattle.pam_facts.proofs.Replaced.{So}
use Rattle.pam_paths.specs.Known.{may_answer}
use Rattle.pam_policy.specs.host.Answers.{set_at}
use Rattle.pam_policy.proofs.host.answers.set_codes.Given as goal

-- the modules so far have the codes that are set for them, and the others what they had
abbrev pub invariant-loop-index : goal.invariant-loop-index
invariant-loop-index l =
    (base : ℕ → List ℕ) → Allows (module_count l.stack) l.fn.known base → (number code : ℕ) → 1 ≤ number → number ≤ module_count l.stack → code < 31 →
    So (set_at (map setting_view l.settings) l.stack) base (may_answer l.known) l.index number code
