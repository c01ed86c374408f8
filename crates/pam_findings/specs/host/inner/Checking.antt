-- For private contracts and proofs alone: what the stacks of a service add to what is found.
use Rattle.std.specs.Prelude.{◌≡◌, ℕ, ◌++◌, List, length, Option}
use Rattle.pam_conf.specs.Files.{Folder}
use Rattle.pam_conf.specs.Survey.{SurveyText, surveyed}
use Rattle.pam_conf.specs.declared.rule.Kind.{Kind}
use Rattle.pam_conf.specs.declared.rule.Kind.TheVariants.{Auth, Account, Password, Session}
use Rattle.pam_text.specs.Members.{Member}
use Rattle.pam_findings.specs.host.FileProblems.{files_read}
use Rattle.pam_findings.specs.host.Host.{InStackOf}
use Rattle.pam_findings.specs.host.inner.Looked.{Asks}
use Rattle.pam_findings.specs.host.inner.Meeting.{Changes, also_met}
use Rattle.pam_findings.specs.host.Modules.{Modules}
use Rattle.pam_findings.specs.host.StackProblems.{HasWayIn, IsCutOff}
use Rattle.pam_findings.specs.host.inner.Table.{Adds, Notes, Puts, with_stack}
use Rattle.pam_findings.specs.host.Verdicts.{IsVerdict, Verdict}
use Rattle.pam_findings.specs.declared.host.stacks.Found.{Found}
use Rattle.pam_findings.specs.declared.host.way_in.WayIn.{WayIn}

-- the files that are read for a service and a kind, where this is read of `other`
abbrev pub reads_of : Folder → SurveyText → List ℕ → Kind → List ℕ
reads_of folder other name kind = files_read folder.form (length folder.entries) ((surveyed folder name kind).reached ++ other.reached)

-- what the stack of a service for a kind adds
pub record AddsStack (folder : Folder) (modules : Modules) (other : SurveyText) (service : ℕ) (name : List ℕ) (kind : Kind) (old new : Found)
    (way : Option WayIn) : Type 0 where
  pub verdict : Verdict
  pub is_verdict : IsVerdict folder modules name kind verdict
  pub puts : Puts (InStackOf folder modules other service name kind verdict) (with_stack service kind) old.table new.table
  pub asks : Adds (Asks (surveyed folder name kind).items verdict) old.asked.items new.asked.items
  pub cuts : Changes (IsCutOff (surveyed folder name kind)) (also_met service kind old.cut_off) old.cut_off new.cut_off
  pub notes : Notes (λ file. Member file (reads_of folder other name kind)) service kind old.readers.items new.readers.items
  pub way_in : kind ≡ Auth → HasWayIn verdict way

-- what its four stacks add, one after another
pub record AddsService (folder : Folder) (modules : Modules) (other : Kind → SurveyText) (service : ℕ) (name : List ℕ) (old new : Found)
    (way : Option WayIn) : Type 0 where
  pub first : Found
  pub second : Found
  pub third : Found
  pub others : Option WayIn × Option WayIn × Option WayIn
  pub auth : AddsStack folder modules (other Auth) service name Auth old first way
  pub account : AddsStack folder modules (other Account) service name Account first second others.0
  pub password : AddsStack folder modules (other Password) service name Password second third others.1
  pub session : AddsStack folder modules (other Session) service name Session third new others.2
