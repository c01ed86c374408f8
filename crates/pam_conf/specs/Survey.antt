-- The survey of a service: its stack, and all faults of the walk: pam.conf(5), on include, substack and @include.
use Rattle.std.specs.Prelude.{ℕ, ◌+◌, ◌-◌, ◌==◌, Bool, true, false, List, [], ◌∷◌, ◌++◌, fold, map, codes, if◌then◌else◌, Option, Some, None, unwrap_or, Ok}
use Rattle.std.specs.Char.{to_ascii_lowercase}
use Rattle.std.specs.List.{list_any}
use Rattle.pam_conf.specs.FileRules.{good_rules, own_faults}
use Rattle.pam_conf.specs.Files.{Folder, bytes_at}
use Rattle.pam_conf.specs.Resolution.{StartText, start_of}
use Rattle.pam_conf.specs.Stack.{Items, End}
use Rattle.pam_conf.specs.Walk.{Event, Met, Followed, Failed, Reads, Walk, fault_at, numbered, walk}
use Rattle.pam_conf.specs.declared.conf_error.ConfError.{ConfError}
use Rattle.pam_conf.specs.declared.error.FaultKind.TheVariants.{NoService, TooManyFollowed, TooManyModules}
use Rattle.pam_conf.specs.declared.error.RuleFault.{RuleFault}
use Rattle.pam_conf.specs.declared.rule.Kind.{Kind}
use Rattle.pam_conf.specs.declared.stack.TheConstants.{MAX_MODULES}
use Rattle.pam_conf.specs.declared.trail.TheConstants.{MAX_OPEN_FILES}
use Rattle.pam_conf.specs.declared.walk.TheConstants.{MAX_FOLLOWS}

-- a survey reads of each file the rules of the lines that have no fault
abbrev pub good_at : Folder → Reads
good_at folder file = Ok (good_rules folder.form (unwrap_or (bytes_at file folder.entries) []))

-- the faults of the file at a position, each line by itself
abbrev pub faults_at : Folder → ℕ → List RuleFault
faults_at folder file = own_faults folder.form (unwrap_or (bytes_at file folder.entries) [])

-- the fault of one include or substack too many, in the place of that of its target
abbrev pub one_too_many : ConfError → ConfError
one_too_many fault = record fault { kind = TooManyFollowed }

-- THE FAULTS OF A WALK, which goes on after each; but one module too many ends it, and so does one include or substack too many,
-- where those whose target has a fault count too
unfoldable pub told : ℕ → ℕ → List Event → List ConfError
told modules follows [] = []
told modules follows (Met file line ∷ events) =
    if modules == MAX_MODULES then fault_at file line TooManyModules ∷ [] else told (modules + 1) follows events
told modules follows (Followed file line target ∷ events) =
    if follows == MAX_FOLLOWS then fault_at file line TooManyFollowed ∷ [] else told modules (follows + 1) events
told modules follows (Failed fault ∷ events) =
    if follows == MAX_FOLLOWS then one_too_many fault ∷ [] else fault ∷ told modules (follows + 1) events

-- the files that it follows until then
unfoldable pub targets : ℕ → ℕ → List Event → List ℕ
targets modules follows [] = []
targets modules follows (Met file line ∷ events) = if modules == MAX_MODULES then [] else targets (modules + 1) follows events
targets modules follows (Followed file line target ∷ events) = if follows == MAX_FOLLOWS then [] else target ∷ targets modules (follows + 1) events
targets modules follows (Failed fault ∷ events) = if follows == MAX_FOLLOWS then [] else targets modules (follows + 1) events

-- whether a limit ends it
unfoldable pub is_over : ℕ → ℕ → List Event → Bool
is_over modules follows [] = false
is_over modules follows (Met file line ∷ events) = if modules == MAX_MODULES then true else is_over (modules + 1) follows events
is_over modules follows (Followed file line target ∷ events) = if follows == MAX_FOLLOWS then true else is_over modules (follows + 1) events
is_over modules follows (Failed fault ∷ events) = if follows == MAX_FOLLOWS then true else is_over modules (follows + 1) events

-- files, each once, and one more
abbrev pub with_file : List ℕ → ℕ → List ℕ
with_file files file = if list_any (λ p. p == file) files then files else files ++ file ∷ []

-- the items, unless a limit ends the walk; all faults; the files that were reached, each once; and whether `other` answers
pub record SurveyText : Type 0 where
  pub items : Option Items
  pub faults : List ConfError
  pub reached : List ℕ
  pub other_answers : Bool

-- the survey of the walk of a file
abbrev pub survey_of : ℕ → Walk → SurveyText
survey_of file w = record {
  items = if is_over 0 0 w.events then None else Some (numbered 1 w.items);
  faults = told 0 0 w.events;
  reached = fold with_file (file ∷ []) (targets 0 0 w.events);
  other_answers = false;
}

unfoldable pub survey_from : Folder → Kind → StartText → SurveyText
survey_from folder kind start = survey_of start.file (walk folder (good_at folder) kind start.service (MAX_OPEN_FILES - 1) (start.file ∷ []) start.file)

-- the survey of a service without rules is that of `other`
abbrev pub survey_without_own : Folder → Kind → Option StartText → SurveyText
survey_without_own folder kind None =
    record { items = None; faults = record { kind = NoService; at = None; line = 0 } ∷ []; reached = []; other_answers = false }
survey_without_own folder kind (Some other) = record (survey_from folder kind other) { other_answers = true }

-- the survey of a service and then that of `other`: the items of the second, the faults and files of both
abbrev pub both_surveys : SurveyText → SurveyText → SurveyText
both_surveys own other = record {
  items = other.items;
  faults = own.faults ++ other.faults;
  reached = fold with_file own.reached other.reached;
  other_answers = true;
}

-- after an empty stack comes that of `other`, if there is one
abbrev pub survey_unless_empty : Folder → Kind → Option StartText → SurveyText → Option Items → SurveyText
survey_unless_empty folder kind (Some other) own (Some End) = both_surveys own (survey_from folder kind other)
survey_unless_empty folder kind other own items = own

-- the survey of a service, from its start and that of `other`
abbrev pub survey_starts : Folder → Kind → Option StartText → Option StartText → SurveyText
survey_starts folder kind None other = survey_without_own folder kind other
survey_starts folder kind (Some own) other = survey_unless_empty folder kind other (survey_from folder kind own) (survey_from folder kind own).items

-- THE SURVEY of a service, in lowercase, for a kind
unfoldable pub surveyed : Folder → List ℕ → Kind → SurveyText
surveyed folder service kind =
    survey_starts folder kind (start_of folder (good_at folder) (map to_ascii_lowercase service)) (start_of folder (good_at folder) (codes "other"))
