use Rattle.std.proofs.Common.{◌≡◌, ◌∙◌, ◌<◌, ◌≤◌, [], List, get_or, length, refl, subst, sym, ℕ}
use Rattle.std.proofs.lemmas.Bool.{eqb-true}
use Rattle.pam_conf.specs.Survey.{faults_at}
use Rattle.pam_conf.proofs.ServiceSteps.{nothing}
use Rattle.pam_conf.proofs.ServiceSteps.{sound-end, sound-more}
use Rattle.pam_conf.proofs.sound.is_sound.Goals as goal

pub loop-file-preserved : goal.loop-file-preserved
loop-file-preserved c =
    let i = c.loop-file.file-index in
    let items = c.deref-file-items.ensures.value in
    sound-more (λ file. faults_at c.args.rules.now file ≡ []) c.args.survey.now.reached.items i 0
    (subst (λ (l : List ℕ). i < length l) items c.loop-file-test.true) c.loop-file.invariant
    (subst (λ (l : List ℕ). faults_at c.args.rules.now (get_or l i 0) ≡ []) items (c.is_faultless.ensures.0 c.if-not-is_faultless.false))

pub returns : goal.returns
returns c = (
  λ t. (
    nothing c.args.survey.now.faults.items
        (sym c.args.survey.now.faults.ok.0 ∙ eqb-true c.args.survey.now.faults.len 0 (sym c.is_empty.ensures ∙ c.if-not-is_empty.false)),
    sound-end (λ file. faults_at c.args.rules.now file ≡ []) c.args.survey.now.reached.items c.loop-file.file-index
        (subst (λ (l : List ℕ). length l ≤ c.loop-file.file-index) c.deref-file-items.ensures.value c.loop-file-test.false) c.loop-file.invariant,
  ),
  λ s. refl,
)
