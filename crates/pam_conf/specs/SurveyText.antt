-- A survey, without its layout in memory.
use Rattle.pam_conf.specs.Survey.{SurveyText}
use Rattle.pam_conf.specs.declared.survey.Survey.{Survey}

abbrev pub survey_text : Survey → SurveyText
survey_text s = record { items = s.stack; faults = s.faults.items; reached = s.reached.items; other_answers = s.other_answers }
