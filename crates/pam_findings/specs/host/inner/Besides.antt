-- For private contracts and proofs alone: what is read of `other`, by kind.
use Rattle.pam_conf.specs.Survey.{SurveyText}
use Rattle.pam_conf.specs.SurveyText.{survey_text}
use Rattle.pam_conf.specs.declared.rule.Kind.{Kind}
use Rattle.pam_conf.specs.declared.rule.Kind.TheVariants.{Auth, Account, Password, Session}
use Rattle.pam_findings.specs.declared.host.beside.Beside.{Beside}

abbrev pub beside_text : Beside → Kind → SurveyText
beside_text beside Auth = survey_text beside.auth
beside_text beside Account = survey_text beside.account
beside_text beside Password = survey_text beside.password
beside_text beside Session = survey_text beside.session
