use Rattle.std.proofs.Common.{◌∙◌, refl, sym}
use Rattle.std.proofs.lemmas.Bool.{false≢true}
use Rattle.pam_conf.specs.SurveyText.{survey_text}
use Rattle.pam_findings.proofs.HostProofs.Alone.{not-own, own}
use Rattle.pam_findings.proofs.host.alone.stack_from.Goals as goal

pub returns-then-not-begins : goal.returns-then-not-begins
returns-then-not-begins c =
    not-own c.args.checker.now.rules.now c.args.kind c.args.file c.args.name.now c.requires.name (survey_text c.in_ok-survey.survey)
    c.in_ok-survey.ensures c.stack_is_sound_survey.ensures.sound (λ o b s. c.begins_at-begins.ensures.no c.if-not-begins.true o b)

pub returns-then-not-is_sound : goal.returns-then-not-is_sound
returns-then-not-is_sound c =
    not-own c.args.checker.now.rules.now c.args.kind c.args.file c.args.name.now c.requires.name (survey_text c.in_ok-survey.survey)
    c.in_ok-survey.ensures c.stack_is_sound_survey.ensures.sound
    (λ o b s. false≢true (sym c.if-not-is_sound.true ∙ c.is_sound-is_sound.ensures.1 s))

pub returns : goal.returns
returns c =
    let begins = c.begins_at-begins.ensures.yes c.if-not-begins.false in
    own c.args.checker.now.rules.now c.args.kind c.args.file c.args.name.now c.requires.name (survey_text c.in_ok-survey.survey)
    c.in_ok-survey.ensures c.stack_is_sound_survey.ensures.sound begins.0 begins.1 (c.is_sound-is_sound.ensures.0 c.if-not-is_sound.false)
    c.in_ok-survey.survey.stack refl
