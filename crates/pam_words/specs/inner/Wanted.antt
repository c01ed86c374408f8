-- For private contracts and proofs alone: the command line.
use Rattle.std.specs.Prelude.{◌≡◌, ◌≢◌, Result, List, codes, map}
use Rattle.std.specs.Option.{option_copied}
use Rattle.clap.specs.Words.{Row, first_of, kind_of}
use Rattle.clap.specs.declared.Error.{Error}
use Rattle.clap.specs.declared.error.ErrorKind.TheVariants.{OutOfMemory}
use Rattle.pam_words.specs.Asked.{Refusal, TaskText}
use Rattle.pam_words.specs.Values.{texts_of}
use Rattle.pam_words.specs.declared.wanted.CheckFiles.{CheckFiles}
use Rattle.pam_words.specs.declared.wanted.CompareFiles.{CompareFiles}
use Rattle.pam_words.specs.declared.wanted.TableNames.{TableNames}
use Rattle.pam_words.specs.declared.wanted.Task.{Task}
use Rattle.pam_words.specs.declared.wanted.Usage.{Usage}
use Rattle.pam_words.specs.declared.wanted.Usage.TheVariants as usage
use Rattle.pam_words.specs.Wanted.{task_view, Gives, IsHelp}

abbrev pub GivesTask : Result TaskText Refusal → Result Task Usage → Type 0
GivesTask = Gives task_view

-- the refusal for an error of `clap`
abbrev pub IsRefusalOf : Error → Usage → Type 0
IsRefusalOf error usage.Memory = kind_of error ≡ OutOfMemory
IsRefusalOf error (usage.Help e) = (kind_of e ≡ kind_of error) × IsHelp (kind_of e)
IsRefusalOf error (usage.Words e) = (kind_of e ≡ kind_of error) × (IsHelp (kind_of e) → ⊥) × (kind_of e ≢ OutOfMemory)
IsRefusalOf error _ = ⊥

-- the names of the group file and the tables
pub record AreTableNames (rows : List Row) (tables : TableNames) : Type 0 where
  pub access : map (λ s. s.now) tables.access.items ≡ texts_of (codes "access") rows
  pub time : option_copied tables.time ≡ first_of (codes "time") rows
  pub groups : option_copied tables.groups ≡ first_of (codes "group") rows

-- what a check reads besides the configuration
pub record IsGiven (rows : List Row) (given : CheckFiles) : Type 0 where
  pub modules : map (λ s. s.now) given.modules.items ≡ texts_of (codes "modules") rows
  pub tables : AreTableNames rows given.tables
  pub facts : option_copied given.facts ≡ first_of (codes "facts") rows
  pub accept : option_copied given.accept ≡ first_of (codes "accept") rows

-- the same, for a comparison
pub record IsCompareGiven (rows : List Row) (given : CompareFiles) : Type 0 where
  pub modules : map (λ s. s.now) given.modules.items ≡ texts_of (codes "modules") rows
  pub facts : option_copied given.facts ≡ first_of (codes "facts") rows
  pub returns : option_copied given.returns ≡ first_of (codes "returns") rows
