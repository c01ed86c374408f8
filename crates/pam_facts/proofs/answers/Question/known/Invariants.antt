use Rattle.std.proofs.Common.{◌≡◌, ◌≤◌, ℕ}
use Rattle.std.specs.Option.{option_map}
use Rattle.pam_paths.specs.Known.{set_for}
use Rattle.pam_facts.specs.Answers.{answers_at}
use Rattle.pam_facts.proofs.answers.Question.known.Given as goal

abbrev pub invariant-loop-index : goal.invariant-loop-index
invariant-loop-index l =
    (m : ℕ) → 1 ≤ m → m ≤ l.index →
    set_for l.known m ≡ answers_at l.self.checks l.self.kind l.self.facts.now (option_map (λ t. t.now) l.self.there) l.stack m
