-- What is wrong with a stack.
use Rattle.std.specs.Prelude.{◌≡◌, ◌⊎◌, ℕ, Bool, true, false, List, [], IsSome, MatchOption, slice_get, Option, Some, None}
use Rattle.pam_conf.specs.FileRules.{good_rules}
use Rattle.pam_conf.specs.Files.{Folder, bytes_at}
use Rattle.pam_conf.specs.Rule.{RuleText}
use Rattle.pam_conf.specs.Stack.{Items, ModuleText, module_at}
use Rattle.pam_conf.specs.Survey.{SurveyText}
use Rattle.pam_conf.specs.Targets.{is_target}
use Rattle.pam_conf.specs.declared.conf_error.ConfError.{ConfError}
use Rattle.pam_conf.specs.declared.rule.Form.{Form}
use Rattle.pam_conf.specs.declared.rule.Form.TheVariants.{Dir, Single}
use Rattle.pam_conf.specs.declared.rule.Kind.{Kind}
use Rattle.pam_conf.specs.declared.rule.Kind.TheVariants.{Auth, Password}
use Rattle.pam_text.specs.Members.{Member}
use Rattle.pam_paths.specs.Known.{may_answer}
use Rattle.pam_paths.specs.Paths.{PathValue}
use Rattle.pam_facts.specs.arguments.Calls.{lack_in}
use Rattle.pam_findings.specs.host.Arguments.{wrong_argument}
use Rattle.pam_findings.specs.host.Callers.{caller_is_root, is_daemon_service, is_greeter}
use Rattle.pam_findings.specs.host.Faillock.{IsHalf, NoneFailsBefore, has_task}
use Rattle.pam_findings.specs.host.MissingFiles.{missing_file}
use Rattle.pam_findings.specs.host.Modules.{Modules}
use Rattle.pam_findings.specs.host.OtherAnswers.{is_only_included}
use Rattle.pam_findings.specs.host.Separators.{lacks_separator}
use Rattle.pam_findings.specs.host.Storing.{FailsBefore, stores}
use Rattle.pam_findings.specs.host.Tokens.{NoneAsksBefore, takes_at}
use Rattle.pam_findings.specs.host.UnknownModules.{IsUnknown}
use Rattle.pam_findings.specs.host.Verdicts.{Judged, Judgement, LetsNobody, Refused, SaysWhoLogsIn, TooLarge, Verdict}
use Rattle.pam_findings.specs.host.Verdicts.{answers_on, causes_of, has_no_function, is_missing, is_other, never_asked_in, way_in_of}
use Rattle.pam_findings.specs.declared.host.problem.ArgumentProblem.TheVariants.{NoToken}
use Rattle.pam_findings.specs.declared.host.problem.Problem.{Problem}
use Rattle.pam_findings.specs.declared.host.problem.Problem.TheVariants as problems
use Rattle.pam_findings.specs.declared.host.problem.Spot.{Spot}
use Rattle.pam_findings.specs.declared.host.refusing.Refuser.{Refuser}
use Rattle.pam_findings.specs.declared.host.way_in.WayIn.{WayIn}

-- FAULTS OF THE WALK

abbrev pub InWalk : List ConfError → Spot → Problem → Type 0
InWalk faults spot (problems.Walk fault) = Member (record { kind = fault; at = spot.file; line = spot.line }) faults
InWalk faults spot problem = ⊥

-- MODULES

-- the module with this number has its rule here
pub record IsAt (items : Items) (number : ℕ) (spot : Spot) (rule : ModuleText) : Type 0 where
  pub is_there : module_at number items ≡ Some rule
  pub file : spot.file ≡ Some rule.file
  pub line : spot.line ≡ rule.line

-- a module has its rule here, and passes a test
abbrev pub HasModule : Items → Spot → (ℕ → ModuleText → Type 0) → Type 0
HasModule items spot Passes = (number : ℕ) × (rule : ModuleText) × IsAt items number spot rule × Passes number rule

-- A5, S5, S13 to S19, S23 to S25, in a stack of a service for a kind; and S3, if no stack may ask it
abbrev pub ModuleHas : Modules → List ℕ → Kind → ModuleText → Problem → Type 0
ModuleHas modules name kind rule problems.NeverAsked = is_other rule ≡ true
ModuleHas modules name kind rule problems.EmptySeparator = lacks_separator rule ≡ true
ModuleHas modules name kind rule (problems.NoModule is_dashed) = (is_missing modules rule ≡ true) × (is_dashed ≡ rule.dashed)
ModuleHas modules name kind rule problems.NoFunction = has_no_function modules.facts kind rule ≡ true
ModuleHas modules name kind rule (problems.CallerIsRoot is_daemon) = (caller_is_root kind name rule ≡ true) × (is_daemon ≡ is_daemon_service name)
ModuleHas modules name kind rule problems.UnknownModule = IsUnknown modules kind rule
ModuleHas modules name kind rule (problems.Argument argument wrong) =
    (wrong_argument modules.facts kind rule argument ≡ Some wrong) ⊎ (missing_file modules.files kind rule argument ≡ Some wrong)
ModuleHas modules name kind rule (problems.BadArguments lack) = lack_in kind rule ≡ Some lack
ModuleHas modules name kind rule problem = ⊥

-- as far as the rules without a fault give a stack
abbrev pub InItems : Modules → List ℕ → Kind → Option Items → Spot → Problem → Type 0
InItems modules name kind None spot problem = ⊥
InItems modules name kind (Some items) spot problem = HasModule items spot (λ number rule. ModuleHas modules name kind rule problem)

-- S3: answers may ask a module with its rule here. Where a stack is refused or too large it is not known of any that they do not
abbrev pub MayAsk : Option Items → Verdict → Spot → Type 0
MayAsk None verdict spot = ⊥
MayAsk (Some items) verdict spot = HasModule items spot (λ number rule. Member number (never_asked_in verdict) → ⊥)

-- A LIMIT ENDS THE WALK of a stack, which has begun at a file: so it is not known which modules the stack has
pub record IsCutOff (survey : SurveyText) : Type 0 where
  pub begun : survey.reached ≡ [] → ⊥
  pub ended : survey.items ≡ None

-- a rule of this kind, without a fault, is here
pub record HasRule (folder : Folder) (kind : Kind) (spot : Spot) : Type 0 where
  pub file : ℕ
  pub bytes : List ℕ
  pub rule : RuleText
  pub is_file : bytes_at file folder.entries ≡ Some bytes
  pub is_rule : Member rule (good_rules folder.form bytes)
  pub is_kind : rule.kind ≡ Some kind
  pub at : spot.file ≡ Some file
  pub line : spot.line ≡ rule.line

-- S3: a stack may ask a module with its rule here; where a limit ends the walk, it may have any rule of its kind
abbrev pub MayAskHere : Folder → Kind → SurveyText → Verdict → Spot → Type 0
MayAskHere folder kind survey verdict spot = MayAsk survey.items verdict spot ⊎ (IsCutOff survey × HasRule folder kind spot)

-- S4: a module can jump past the end of its list
abbrev pub Jumps : Verdict → Spot → Type 0
Jumps Refused spot = ⊥
Jumps TooLarge spot = ⊥
Jumps (Judged j) spot = HasModule j.items spot (λ number rule. Member number j.jumps)

-- S26: somebody is let in, but never after the success of a module that says who logs in
abbrev pub SucceedsInVain : Verdict → Spot → Type 0
SucceedsInVain Refused spot = ⊥
SucceedsInVain TooLarge spot = ⊥
SucceedsInVain (Judged j) spot =
    (j.nobody ≡ false) × HasModule j.items spot (λ number rule. Member number j.never_counts × SaysWhoLogsIn j.failing number)

-- S20, but of a file that others include, before which they may ask: some run asks a module that by the argument at this position only takes a token that a module before it asked for; and no run asks
-- a module that may ask for one before it
abbrev pub TakesNone : Kind → Verdict → ℕ → Spot → Type 0
TakesNone kind Refused argument spot = ⊥
TakesNone kind TooLarge argument spot = ⊥
TakesNone kind (Judged j) argument spot = HasModule j.items spot
    (λ number rule. (takes_at kind rule argument ≡ true) × (Member number j.never_asked → ⊥) × NoneAsksBefore kind j number)

-- S21: a module stores a new password, for which it asks itself where it has to, and in some run this one has failed before, which checks
-- new passwords
abbrev pub StoresRefused : Verdict → Refuser → Spot → Type 0
StoresRefused Refused by spot = ⊥
StoresRefused TooLarge by spot = ⊥
StoresRefused (Judged j) by spot = HasModule j.items spot (λ number rule. (stores rule ≡ true) × FailsBefore by j number)

-- S22: a rule of pam_faillock counts failures, or refuses who failed too often, and no run asks one that does the other
abbrev pub CountsInVain : Verdict → Bool → Spot → Type 0
CountsInVain Refused counts spot = ⊥
CountsInVain TooLarge counts spot = ⊥
CountsInVain (Judged j) counts spot = HasModule j.items spot (λ number rule. IsHalf j counts rule)

-- S22, but of a file that others include, which may ask modules before it: some run asks a rule of pam_faillock that counts failures, and
-- none asks it after a module that says who logs in failed
abbrev pub CountsNoFailure : Verdict → Spot → Type 0
CountsNoFailure Refused spot = ⊥
CountsNoFailure TooLarge spot = ⊥
CountsNoFailure (Judged j) spot =
    HasModule j.items spot (λ number rule. (has_task true rule ≡ true) × (Member number j.never_asked → ⊥) × NoneFailsBefore j number)

-- BY THE VERDICT on the stack of a service for a kind, where a whole stack is at line 0 of the file of its first rules, and S1 and S2 are
-- at line 0 of their cause

-- WHICH STACK: its service, by position, and its kind; the service that S1 and S2 name; the file of its first rules; whether the service
-- is a file that is only included, for which no program asks; whether others include its file; and whether it is that of a greeter, whose
-- own user alone asks
pub record StackAt : Type 0 where
  pub service : ℕ
  pub kind : Kind
  pub named : Option ℕ
  pub home : Option ℕ
  pub is_only_included : Bool
  pub is_included : Bool
  pub is_greeter : Bool

-- in pam.conf the rules of all services are in one file
abbrev pub named_in : Form → ℕ → Option ℕ
named_in Dir service = None
named_in Single service = Some service

-- the stack of the service of this name, by its survey
abbrev pub stack_at : Folder → ℕ → List ℕ → Kind → SurveyText → StackAt
stack_at folder service name kind survey = record {
  service = service;
  kind = kind;
  named = named_in folder.form service;
  home = slice_get survey.reached 0;
  is_only_included = is_only_included folder name survey;
  is_included = is_target folder name;
  is_greeter = is_greeter name;
}

abbrev pub IsHome : Option ℕ → Spot → Type 0
IsHome home spot = (spot.file ≡ home) × (spot.line ≡ 0)

-- S1, S2, S4, S9, S20 to S22 and S26
abbrev pub ByVerdict : StackAt → Verdict → Spot → Problem → Type 0
ByVerdict at verdict spot (problems.LetsNobodyIn of_service of_kind) =
    (of_service ≡ at.named) × (of_kind ≡ at.kind) × IsHome (causes_of verdict).nobody spot × LetsNobody at.kind verdict × (at.is_only_included ≡ false)
ByVerdict at verdict spot (problems.LetsAnybodyIn of_service of_greeter) =
    (of_service ≡ at.named) × (at.kind ≡ Auth) × IsHome (causes_of verdict).anybody spot × IsSome (way_in_of verdict) × (at.is_only_included ≡ false)
    × (of_greeter ≡ at.is_greeter)
ByVerdict at verdict spot (problems.TooLarge of_service of_kind) =
    (of_service ≡ at.service) × (of_kind ≡ at.kind) × IsHome at.home spot × (verdict ≡ TooLarge)
ByVerdict at verdict spot problems.JumpPastEnd = Jumps verdict spot
ByVerdict at verdict spot problems.SuccessNeverCounts = (at.kind ≡ Auth) × SucceedsInVain verdict spot
ByVerdict at verdict spot (problems.Argument argument wrong) =
    (wrong ≡ NoToken) × (at.is_included ≡ false) × TakesNone at.kind verdict argument spot
ByVerdict at verdict spot (problems.StoredThoughRefused by) = (at.kind ≡ Password) × StoresRefused verdict by spot
ByVerdict at verdict spot (problems.NotCounted counts) = (at.kind ≡ Auth) × CountsInVain verdict counts spot
ByVerdict at verdict spot problems.NoFailureCounted = (at.kind ≡ Auth) × (at.is_included ≡ false) × CountsNoFailure verdict spot
ByVerdict at verdict spot problem = ⊥

-- A PROBLEM OF A STACK itself, by the survey of a service and the verdict
abbrev pub InStack : Folder → Modules → ℕ → List ℕ → Kind → SurveyText → Verdict → Spot → Type 0
InStack folder modules service name kind survey verdict spot =
    InWalk survey.faults spot spot.problem
    ⊎ (InItems modules name kind survey.items spot spot.problem
    ⊎ ByVerdict (stack_at folder service name kind survey) verdict spot spot.problem)

-- THE FIRST WAY IN, as a stack and answers of its modules
pub record IsWayIn (j : Judgement) (path : PathValue) (way : WayIn) : Type 0 where
  pub stack : way.stack ≡ j.items
  pub answers : way.answers.items ≡ answers_on (may_answer j.failing) path

abbrev pub HasWayIn : Verdict → Option WayIn → Type 0
HasWayIn Refused way = way ≡ None
HasWayIn TooLarge way = way ≡ None
HasWayIn (Judged j) way = MatchOption j.way (way ≡ None) (λ path. MatchOption way ⊥ (IsWayIn j path))
