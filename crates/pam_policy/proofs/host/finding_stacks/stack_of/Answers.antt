use Rattle.pam_conf.specs.SurveyText.{survey_text}
use Rattle.pam_policy.proofs.HostProofs.Gathered.{sound-stack}
use Rattle.pam_policy.proofs.host.finding_stacks.stack_of.Goals as goal

pub returns-in-Some : goal.returns-in-Some
returns-in-Some c =
    sound-stack c.stack_is_sound_survey.ensures.sound c.args.rules.now c.args.files.now c.requires c.args.name.now c.args.kind
    (survey_text c.in_ok-survey.survey) c.in_ok-survey.ensures c.in-Some.stack c.in-Some.is (c.is_sound.ensures.0 c.if-not-is_sound.false)
