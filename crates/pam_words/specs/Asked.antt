-- The command line: what the words can ask for, as texts.
use Rattle.std.specs.Prelude.{ℕ, ℤ, List, Option}
use Rattle.pam_conf.specs.declared.Kind.{Kind}
use Rattle.clap.specs.Words.{Text}
use Rattle.pam_facts.specs.settings.Settings.{SettingText}
use Rattle.pam_words.specs.declared.wanted.GraphFormat.{GraphFormat}
use Rattle.pam_words.specs.declared.wanted.LevelName.{LevelName}
use Rattle.pam_words.specs.declared.wanted.OutputForm.{OutputForm}
use Rattle.pam_words.specs.declared.wanted.PathFilter.{PathFilter}
use Rattle.pam_words.specs.declared.wanted.ReleaseName.{ReleaseName}

pub data SourceText : Type 0 where
  dir : Text → SourceText
  over : Text → Text → SourceText
  conf : Text → SourceText
  root : Text → SourceText

pub data MomentText : Type 0 where
  civil : Text → MomentText
  instant : ℤ → Text → MomentText

-- the part of a listing that a page is taken from
pub data PartText : Type 0 where
  whole : PartText
  after : Text → PartText
  before : Text → PartText

pub record LoginText : Type 0 where
  pub user : Text
  pub rhost : Text
  pub tty : Text

-- the tables are one or more, in the order in which they are given
pub record AccessTask : Type 0 where
  pub tables : List Text
  pub groups : Option Text
  pub passwd : Option Text
  pub login : LoginText
  pub arguments : List Text

pub record TimeTask : Type 0 where
  pub table : Text
  pub login : LoginText
  pub moment : MomentText

-- what a module may return of which nothing else tells: any code, or what is known of it, where a facts file may be named
pub data AnswersText : Type 0 where
  any : AnswersText
  possible : Option Text → AnswersText

-- what says which codes modules may return
pub record KnowledgeText : Type 0 where
  pub modules : List Text
  pub login : LoginText
  pub access : List Text
  pub time : Option Text
  pub groups : Option Text
  pub passwd : Option Text
  pub returns : Option Text
  pub settings : List SettingText
  pub moment : Option MomentText
  pub answers : AnswersText

pub record PathsTask : Type 0 where
  pub source : SourceText
  pub kind : Kind
  pub limit : ℕ
  pub part : PartText
  pub filter : PathFilter
  pub knowledge : KnowledgeText

pub record OutcomesTask : Type 0 where
  pub source : SourceText
  pub kind : Kind
  pub knowledge : KnowledgeText

pub record GraphTask : Type 0 where
  pub source : SourceText
  pub kind : Kind
  pub format : GraphFormat
  pub knowledge : KnowledgeText

-- the services are all if none is named. The folders of modules, access tables, a time table, a group file, a facts file and an accept
-- file may be named
pub record CheckTask : Type 0 where
  pub source : SourceText
  pub services : List Text
  pub fail_on : LevelName
  pub modules : List Text
  pub access : List Text
  pub time : Option Text
  pub groups : Option Text
  pub facts : Option Text
  pub accept : Option Text

-- the policies are one or more, in the order in which they are given
pub record PolicyTask : Type 0 where
  pub source : SourceText
  pub policies : List Text
  pub fail_on : LevelName
  pub knowledge : KnowledgeText

pub record NeedsTask : Type 0 where
  pub source : SourceText
  pub kind : Kind
  pub knowledge : KnowledgeText

-- the service and the kind are all if none is named. The folders of modules, a facts file and a returns file may be named, and the codes
-- of modules
pub record CompareTask : Type 0 where
  pub old : SourceText
  pub new : SourceText
  pub service : Option Text
  pub kind : Option Kind
  pub modules : List Text
  pub facts : Option Text
  pub returns : Option Text
  pub settings : List SettingText

-- the kinds are all if none is named. A release whose reading is shown may be named
pub record ShowTask : Type 0 where
  pub source : SourceText
  pub kind : Option Kind
  pub release : Option ReleaseName

pub data TaskText : Type 0 where
  check : CheckTask → TaskText
  compare : CompareTask → TaskText
  show : ShowTask → TaskText
  decide : SourceText → Kind → List ℕ → TaskText
  access : AccessTask → TaskText
  time : TimeTask → TaskText
  paths : PathsTask → TaskText
  outcomes : OutcomesTask → TaskText
  graph : GraphTask → TaskText
  policy : PolicyTask → TaskText
  needs : NeedsTask → TaskText
  explain : Option Text → TaskText
  facts : TaskText
  version : TaskText

-- a command with its service. Each candidate is a name and the file that is read in place of the one of
-- this name
pub record RequestText : Type 0 where
  pub service : Text
  pub task : TaskText
  pub candidates : List (Text × Text)
  pub output : OutputForm

-- U2 to U6, U8, U11 to U13, U15 to U17, U20
pub data Refusal : Type 0 where
  source : Refusal
  kind_name : Refusal
  code_name : Refusal
  format_name : Refusal
  level_name : Refusal
  answers_name : Refusal
  login : Refusal
  moment : Refusal
  both_ends : Refusal
  both_filters : Refusal
  release_form : Refusal
  setting_form : Refusal
  candidate_form : Refusal
