use Rattle.std.proofs.Common.{◌∙◌, ap, subst, sym}
use Rattle.std.proofs.lemmas.Bool.{false≢true}
use Rattle.pam_conf.specs.Files.{Folder}
use Rattle.pam_conf.specs.Survey.{SurveyText}
use Rattle.pam_conf.specs.SurveyText.{survey_text}
use Rattle.pam_findings.specs.host.StackProblems.{named_in}
use Rattle.pam_findings.specs.host.inner.Looked.{Looks}
use Rattle.pam_findings.proofs.HostProofs.Adding.{walk-seen}
use Rattle.pam_findings.proofs.HostProofs.Seen.{looks-judged, looks-none, looks-unsound, stack-of}
use Rattle.pam_findings.proofs.host.stacks.Checker.look.Goals as goal

pub returns-in_default-clause-looks : goal.returns-in_default-clause-looks
returns-in_default-clause-looks c is =
    let rules = c.args.self.now.rules.now in
    let at = c.args.at in
    let asked = c.args.asked.now.items in
    subst (Looks rules c.args.self.now.modules.now c.args.name.now at.service at.kind (survey_text c.args.survey) c.push_walk.new.spots.items asked asked)
    (sym c.nothing.ensures)
    (looks-none c.args.self.now.rules.now c.args.self.now.modules.now c.args.name.now c.args.at.service c.args.at.kind (survey_text c.args.survey) is
    c.stack_is_sound_survey.ensures.sound c.in_default.is c.push_walk.new.spots.items c.args.asked.now.items
    (walk-seen c.args.survey.faults.items c.deref.result.now c.new-spots.result.items c.push_walk.new.spots.items c.new-spots.ensures.items
    c.deref.ensures.value c.in_ok-push_walk.ensures))

pub returns-then-not-is_sound-clause-looks : goal.returns-then-not-is_sound-clause-looks
returns-then-not-is_sound-clause-looks c is =
    let rules = c.args.self.now.rules.now in
    let at = c.args.at in
    subst (Looks rules c.args.self.now.modules.now c.args.name.now at.service at.kind (survey_text c.args.survey) c.push_modules.new.spots.items
    c.args.asked.now.items c.push_asked.new.asked.items) (sym c.nothing-then-not-is_sound.ensures)
    (looks-unsound c.args.self.now.rules.now c.args.self.now.modules.now c.args.name.now c.args.at.service c.args.at.kind (survey_text c.args.survey) is
    c.stack_is_sound_survey.ensures.sound c.in-Some.stack c.in-Some.is
    (λ s. false≢true (sym c.if-not-is_sound.true ∙ c.is_sound-is_sound.ensures.1 s))
    c.push_walk.new.spots.items c.push_modules.new.spots.items c.args.asked.now.items c.push_asked.new.asked.items
    (walk-seen c.args.survey.faults.items c.deref.result.now c.new-spots.result.items c.push_walk.new.spots.items c.new-spots.ensures.items
    c.deref.ensures.value c.in_ok-push_walk.ensures)
    c.in_ok-push_modules.ensures c.in_ok-push_asked.ensures)

pub returns-clause-looks : goal.returns-clause-looks
returns-clause-looks c is =
    let rules = c.args.self.now.rules.now in
    let modules = c.args.self.now.modules.now in
    let survey = survey_text c.args.survey in
    let name = c.args.name.now in
    let at = c.args.at in
    let sound = c.is_sound-is_sound.ensures.0 c.if-not-is_sound.false in
    let stack = stack-of rules modules name at.service at.kind survey is c.stack_is_sound_survey.ensures.sound c.in-Some.stack c.in-Some.is sound in
    let second = c.push_modules.new.spots.items in
    let spots = c.judge.new.spots.items in
    let asked = c.args.asked.now.items in
    let more = c.judge.new.asked.items in
    looks-judged rules modules name at.service at.kind survey is c.stack_is_sound_survey.ensures.sound c.in-Some.stack c.in-Some.is
    c.push_walk.new.spots.items second spots asked more
    (walk-seen c.args.survey.faults.items c.deref.result.now c.new-spots.result.items c.push_walk.new.spots.items c.new-spots.ensures.items
    c.deref.ensures.value c.in_ok-push_walk.ensures)
    c.in_ok-push_modules.ensures c.in_ok-told.told at.named at.home at.is_only_included at.is_included at.is_greeter
    (c.requires.named ∙ ap (λ (f : Folder). named_in f.form at.service) (sym c.args.self.now.same)) c.requires.home c.requires.included c.requires.target
    c.requires.greeter
    (c.in_ok-told.ensures.judges name stack (c.deref-2.ensures.value ∙ ap (λ (s : SurveyText). s.reached) is))
