use Rattle.std.proofs.Common.{◌≤◌, ◌<◌, ℕ, List}
use Rattle.std.specs.Option.{option_map}
use Rattle.pam_conf.specs.Stack.{module_count}
use Rattle.pam_facts.specs.Answers.{Allows}
use Rattle.pam_facts.proofs.Replaced.{So}
use Rattle.pam_paths.specs.Known.{may_answer}
use Rattle.pam_changes.specs.Known.{told_at}
use Rattle.pam_changes.specs.Sides.{sides_view}
use Rattle.pam_changes.proofs.known.add_told.Given as goal

-- the modules so far have the codes that are told of them, and the others what they had
abbrev pub invariant-loop-index : goal.invariant-loop-index
invariant-loop-index l =
    let told = sides_view l.sides in
    (base : ℕ → List ℕ) → Allows (module_count l.stack) l.fn.known base → (number code : ℕ) → 1 ≤ number → number ≤ module_count l.stack → code < 31 →
    So (told_at told.returns told.settings (option_map (λ t. t.now) l.there) l.stack) base (may_answer l.known) l.index number code
