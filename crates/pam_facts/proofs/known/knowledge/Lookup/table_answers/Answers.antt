use Rattle.std.proofs.Common.{◌≡◌, ◌<◌, ◌≤◌, ◌+◌, sym, subst, arith}
use Rattle.std.proofs.lemmas.Result.{err_from_is_err_and}
use Rattle.pam_conf.specs.Stack.{module_count}
use Rattle.pam_paths.specs.Known.{set_for}
use Rattle.pam_paths.specs.declared.knowledge.Known.{Known}
use Rattle.pam_tables.specs.Login.{login_view}
use Rattle.pam_facts.specs.known.inner.Sets.{AreDone, IsSaidSet, IsTableSet, said_of, told_of_number}
use Rattle.pam_facts.specs.known.Tables.{tables_view}
use Rattle.pam_facts.proofs.KnownProofs.FaultSteps.{fault_found, faults_done, no_fault, none_here, told_none, told_some}
use Rattle.pam_facts.proofs.KnownProofs.ReaderSteps.{code_small_at}
use Rattle.pam_facts.proofs.KnownProofs.ReadTables.{some_of}
use Rattle.pam_facts.proofs.KnownProofs.SetSteps.{changes, stays, told_set, untold_set}
use Rattle.pam_facts.proofs.known.knowledge.Lookup.table_answers.Goals as goal
use Rattle.pam_facts.proofs.known.knowledge.Lookup.table_answers.Goals.{in-Some, in_default}

pub returns-in_err-code-clause-told : goal.returns-in_err-code-clause-told
returns-in_err-code-clause-told c =
    let n = module_count c.args.stack.now in
    let told = told_of_number c.args.self.now c.args.stack.now in
    let within : c.loop-index.index < module_count c.args.stack.now = omega (arith, c.modules-index-end.ensures.count, c.loop-index-test.true) in
    let p = err_from_is_err_and c.from_residual.result c.from_residual.ensures.1 in
    rw (p.1, p.2) (fault_found told n c.loop-index.index within _ c.in_err-code.field-0.0 c.in_err-code.ensures.told c.loop-index.invariant.faults)

pub loop-index-preserved : goal.loop-index-preserved
loop-index-preserved c =
    let n = module_count c.args.stack.now in
    let l = c.args.self.now in
    let i = c.loop-index.index in
    let told = told_of_number c.args.self.now c.args.stack.now in
    let said = said_of c.args.self.now c.args.stack.now in
    let answer = c.in_ok-code.field-0 in
    let within : c.loop-index.index < module_count c.args.stack.now = omega (arith, c.modules-index-end.ensures.count, c.loop-index-test.true) in
    let most : module_count c.args.stack.now ≤ 256 = omega (arith, c.modules-index-end.ensures.count, c.modules-index-end.ensures.most) in
    let faults = none_here told n i within _ (no_fault answer (told (i + 1)) c.in_ok-code.ensures.told) c.loop-index.invariant.faults in
    let AreSo : Known → Type 0 = λ k. AreDone n (IsSaidSet said) (IsTableSet told said) (set_for k) (i + 1) in
    elim c.match-branch-2.branch [
      | in-Some w ↦
          let is = told_some answer (told (i + 1)) w.in-Some.code c.in_ok-code.ensures.told w.in-Some.is in
          let small = code_small_at l.kind (login_view l.login.now) (tables_view l.tables.now) l.groups c.args.stack.now (i + 1) w.in-Some.code is in
          record {
            faults = faults;
            sets = subst AreSo (sym w.known-is)
                (changes n (IsSaidSet said) (IsTableSet told said) (set_for c.loop-index.known) i within c.loop-index.invariant.sets (set_for w.set.new.self)
                w.single.result
                (λ m low high. w.set.ensures m low (omega (arith, most, high)))
                (told_set (told (i + 1)) (said (i + 1)) w.single.result w.in-Some.code small is w.single.ensures));
            kept = c.answer_at.ensures.kept;
          }
      | in_default w ↦
          record {
            faults = faults;
            sets = subst AreSo (sym w.known-is)
                (stays n (IsSaidSet said) (IsTableSet told said) (set_for c.loop-index.known) i within c.loop-index.invariant.sets
                (untold_set (told (i + 1)) (said (i + 1)) _ (told_none answer (told (i + 1)) c.in_ok-code.ensures.told w.in_default.is)));
            kept = c.answer_at.ensures.kept;
          }
    ]

pub returns-clause-told : goal.returns-clause-told
returns-clause-told c =
    let end : c.loop-index.index ≡ module_count c.args.stack.now = omega (arith, c.modules-index-end.ensures.count, c.loop-index-test.false) in
    (faults_done _ _ _ _ end c.loop-index.invariant.faults, λ m low high. c.loop-index.invariant.sets.first m low (omega (arith, end, high)))

pub returns-in_err-code-clause-read : goal.returns-in_err-code-clause-read
returns-in_err-code-clause-read c =
    let within : c.loop-index.index < module_count c.args.stack.now = omega (arith, c.modules-index-end.ensures.count, c.loop-index-test.true) in
    let p = err_from_is_err_and c.from_residual.result c.from_residual.ensures.1 in
    rw (p.1, p.2) (some_of c.args.self.now c.args.stack.now c.loop-index.index c.in_err-code.field-0.0 within c.in_err-code.ensures.read)
