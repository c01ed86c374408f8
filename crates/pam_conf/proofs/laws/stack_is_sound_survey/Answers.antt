use Rattle.pam_conf.proofs.SoundSurveys.{faultless, stack_is_sound}
use Rattle.pam_conf.proofs.laws.stack_is_sound_survey.Goals as goal

pub returns : goal.returns
returns c = record {
  sound = stack_is_sound;
  stack = faultless;
}
