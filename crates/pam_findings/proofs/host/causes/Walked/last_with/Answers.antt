use Rattle.std.proofs.Common.{◌+◌, ◌∙◌, ℕ, Bool, Option, get_or, refl, slice_get, subst, sym, take}
use Rattle.pam_conf.specs.declared.rule.Kind.{Kind}
use Rattle.pam_findings.specs.host.Causes.{IsLastOr}
use Rattle.pam_findings.specs.host.Verdicts.{HasAlone, LacksAlone}
use Rattle.pam_findings.specs.host.inner.Alone.{Says, has}
use Rattle.pam_findings.proofs.HostProofs.Causing.{last-end, last-has, last-lacks, last-start}
use Rattle.pam_findings.proofs.host.causes.Walked.last_with.Goals as goal
use Rattle.pam_findings.proofs.host.causes.Walked.last_with.Goals.{else-has, then-has}

pub loop-file-init : goal.loop-file-init
loop-file-init c =
    let rules = c.args.self.now.checker.now.rules.now in
    let modules = c.args.self.now.checker.now.modules.now in
    let Has : ℕ → Type 0 = HasAlone rules modules c.args.kind c.args.whole in
    let Lacks : ℕ → Type 0 = LacksAlone rules modules c.args.kind c.args.whole in
    let reached = c.args.self.now.reached.now in (
      subst (λ (o : Option ℕ). IsLastOr Has Lacks (slice_get reached 0) (take 0 reached) o) (sym (c.copied-cause.ensures ∙ c.first.ensures.value))
          (last-start Has Lacks (slice_get reached 0) reached),
      c.requires.known,
    )

pub loop-file-preserved : goal.loop-file-preserved
loop-file-preserved c =
    let rules = c.args.self.now.checker.now.rules.now in
    let modules = c.args.self.now.checker.now.modules.now in
    let kind = c.args.kind in
    let whole = c.args.whole in
    let here = c.in_ok-here.here in
    let Has : ℕ → Type 0 = HasAlone rules modules kind whole in
    let Lacks : ℕ → Type 0 = LacksAlone rules modules kind whole in
    let reached = c.args.self.now.reached.now in
    let home = slice_get reached 0 in
    let file : ℕ = get_or reached c.loop-file.file-index 0 in
    let at = c.in_ok-here.ensures.at in
    let Is : Kind → ℕ → Type 0 = λ k f. Says rules modules k whole f (has whole here) in
    let said : Says rules modules kind whole file (has whole here) =
    subst (λ (f : ℕ). Is kind f) at.0 (subst (λ (k : Kind). Is k here.file) at.1 (c.in_ok-here.ensures.is whole)) in (
      elim c.if-has.branch [
        | then-has w ↦
            subst (λ (o : Option ℕ). IsLastOr Has Lacks home (take (c.loop-file.file-index + 1) reached) o) (sym w.cause-is)
            (last-has Has Lacks home reached c.loop-file.file-index file 0 c.loop-file-test.true refl
            (subst (λ (b : Bool). Says rules modules kind whole file b) (sym c.has.ensures ∙ w.if-has.true) said))
        | else-has w ↦
            subst (λ (o : Option ℕ). IsLastOr Has Lacks home (take (c.loop-file.file-index + 1) reached) o) (sym w.cause-is)
            (last-lacks Has Lacks home reached c.loop-file.file-index file 0 c.loop-file-test.true refl c.loop-file.cause
            (subst (λ (b : Bool). Says rules modules kind whole file b) (sym c.has.ensures ∙ w.if-has.false) said) c.loop-file.invariant.0)
      ],
      c.in_ok-here.ensures.known,
    )

pub returns-clause-last : goal.returns-clause-last
returns-clause-last c =
    let rules = c.args.self.now.checker.now.rules.now in
    let modules = c.args.self.now.checker.now.modules.now in
    let Has : ℕ → Type 0 = HasAlone rules modules c.args.kind c.args.whole in
    let Lacks : ℕ → Type 0 = LacksAlone rules modules c.args.kind c.args.whole in
    let reached = c.args.self.now.reached.now in
    last-end Has Lacks (slice_get reached 0) reached c.loop-file.file-index c.loop-file.cause c.loop-file-test.false c.loop-file.invariant.0
