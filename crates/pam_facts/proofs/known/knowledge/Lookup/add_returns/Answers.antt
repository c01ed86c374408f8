use Rattle.std.proofs.Common.{◌<◌, ◌≤◌, ◌+◌, sym, subst, arith}
use Rattle.pam_conf.specs.Stack.{module_count}
use Rattle.pam_paths.specs.Known.{set_for}
use Rattle.pam_paths.specs.declared.knowledge.Known.{Known}
use Rattle.pam_facts.specs.known.Knowledge.{line_at}
use Rattle.pam_facts.specs.known.inner.Sets.{AreDone, IsLineSet, IsTableSet, said_of, told_of_number}
use Rattle.pam_facts.proofs.KnownProofs.SetSteps.{changes, stays, line_kept, line_put}
use Rattle.pam_facts.proofs.known.knowledge.Lookup.add_returns.Goals as goal
use Rattle.pam_facts.proofs.known.knowledge.Lookup.add_returns.Goals.{in-Some, in_default}

pub loop-index-preserved : goal.loop-index-preserved
loop-index-preserved c =
    let n = module_count c.args.stack.now in
    let i = c.loop-index.index in
    let told = told_of_number c.args.self.now c.args.stack.now in
    let said = said_of c.args.self.now c.args.stack.now in
    let line = line_at c.args.returns.now c.args.stack.now in
    let within : c.loop-index.index < module_count c.args.stack.now = omega (arith, c.modules-index-end.ensures.count, c.loop-index-test.true) in
    let most : module_count c.args.stack.now ≤ 256 = omega (arith, c.modules-index-end.ensures.count, c.modules-index-end.ensures.most) in
    let AreSo : Known → Type 0 = λ k. AreDone n (IsTableSet told said) (IsLineSet told line said) (set_for k) (i + 1) in
    elim c.match-codes_at.branch [
      | in-Some w ↦ subst AreSo (sym w.known-is)
          (changes n (IsTableSet told said) (IsLineSet told line said) (set_for c.loop-index.known) i within c.loop-index.invariant
          (set_for w.set.new.self) w.in-Some.codes
          (λ m low high. w.set.ensures m low (omega (arith, most, high))) (line_put (told (i + 1)) (said (i + 1)) w.in-Some.codes (line (i + 1)) w.in-Some.ensures))
      | in_default w ↦ subst AreSo (sym w.known-is)
          (stays n (IsTableSet told said) (IsLineSet told line said) (set_for c.loop-index.known) i within c.loop-index.invariant
          (line_kept (told (i + 1)) (said (i + 1)) _ (line (i + 1)) w.in_default.ensures))
    ]
