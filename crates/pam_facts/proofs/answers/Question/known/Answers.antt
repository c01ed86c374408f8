use Rattle.std.proofs.Common.{◌≡◌, ◌≤◌, ◌<◌, ℕ, List, arith}
use Rattle.std.specs.Option.{option_map}
use Rattle.pam_conf.specs.Stack.{module_count}
use Rattle.pam_paths.specs.Known.{set_for}
use Rattle.pam_facts.specs.Answers.{answers_at}
use Rattle.pam_facts.proofs.AnswerSteps.{at_some, stored}
use Rattle.pam_facts.proofs.answers.Question.known.Goals as goal

pub set-requires-clause-some : goal.set-requires-clause-some
set-requires-clause-some c = rw c.answers_at.ensures (at_some _ _ _ _ _ _).some

pub loop-index-preserved : goal.loop-index-preserved
loop-index-preserved c =
    let q = c.args.self.now in
    let codes : ℕ → List ℕ = answers_at q.checks q.kind q.facts.now (option_map (λ t. t.now) q.there) c.args.stack.now in
    let within : c.loop-index.index < module_count c.args.stack.now = omega (arith, c.modules-index-end.ensures.count, c.loop-index-test.true) in
    let most : module_count c.args.stack.now ≤ 256 = omega (arith, c.modules-index-end.ensures.count, c.modules-index-end.ensures.most) in
    stored (set_for c.set.new.self) (set_for c.loop-index.known) codes c.loop-index.index (module_count c.args.stack.now) within
    (λ m low high. rw (← c.answers_at.ensures) (c.set.ensures m low (omega (arith, most, high)))) c.loop-index.invariant

pub returns : goal.returns
returns c = λ m low high.
    let end : c.loop-index.index ≡ module_count c.args.stack.now = omega (arith, c.modules-index-end.ensures.count, c.loop-index-test.false) in
    c.loop-index.invariant m low (omega (arith, end, high))
