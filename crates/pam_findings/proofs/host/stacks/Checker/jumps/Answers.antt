use Rattle.std.proofs.Common.{◌≡◌, ◌∙◌, [], ap, subst, sym}
use Rattle.std.proofs.lemmas.Result.{IfOk-weaker}
use Rattle.pam_conf.specs.Files.{Folder}
use Rattle.pam_conf.specs.Laws.{IsSound}
use Rattle.pam_conf.specs.Survey.{SurveyText}
use Rattle.pam_findings.specs.host.Inside.{HasJumpInside}
use Rattle.pam_findings.specs.host.inner.Insides.{jumps_from_all}
use Rattle.pam_findings.specs.host.inner.Table.{Adds}
use Rattle.pam_findings.proofs.HostProofs.Jumping.{adds-jumps}
use Rattle.pam_findings.proofs.host.stacks.Checker.jumps.Goals as goal

pub returns-in-Dir : goal.returns-in-Dir
returns-in-Dir c = λ name is.
    let rules = c.args.self.now.rules.now in
    let kind = c.args.kind in
    IfOk-weaker c.jumps_inside.result (λ spots. spots.items ≡ jumps_from_all rules kind c.deref.result.now)
    (λ spots. Adds (HasJumpInside rules name kind) [] spots.items)
    (λ spots h.
    adds-jumps rules name kind spots.items (ap (λ (f : Folder). f.form) c.args.self.now.same ∙ sym c.form.ensures ∙ c.in-Dir.is)
    (subst (IsSound rules) is (c.is_sound.ensures.0 c.if-is_sound.true))
    (h ∙ ap (jumps_from_all rules kind) (c.deref.ensures.value ∙ ap (λ (s : SurveyText). s.reached) is)))
    c.jumps_inside.ensures
