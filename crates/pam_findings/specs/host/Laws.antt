-- What the definitions imply.
use Rattle.std.specs.Prelude.{◌≡◌, ℕ, ◌<◌, Bool, true, false, not, All, IsSome, List, length, map, slice_index_or, Option, Some, None, Ok}
use Rattle.std.specs.BTreeMap.{BTreeMap, get}
use Rattle.pam_facts.specs.declared.arguments.lacks.Lack.{Lack}
use Rattle.pam_findings.specs.stack.Asked.{Asks, AsksWith}
use Rattle.pam_findings.specs.stack.Counting.{Counts}
use Rattle.pam_findings.specs.stack.Leading.{Leads}
use Rattle.pam_findings.specs.stack.Soundness.{IsFirstWayIn, LetsIn}
use Rattle.pam_codes.specs.Code.{all_codes}
use Rattle.pam_conf.specs.Resolution.{resolved}
use Rattle.pam_conf.specs.Stack.{IsNumbered, Items, ModuleText, module_at, module_count}
use Rattle.pam_conf.specs.Targets.{is_target}
use Rattle.pam_conf.specs.declared.rule.Kind.{Kind}
use Rattle.pam_conf.specs.declared.rule.Kind.TheVariants.{Auth, Password}
use Rattle.pam_dispatch.specs.Runs.{Assignment}
use Rattle.pam_dispatch.specs.State.{start_state, success}
use Rattle.pam_dispatch.specs.Tree.{asked, decided}
use Rattle.pam_paths.specs.Known.{may_answer}
use Rattle.pam_paths.specs.Listing.{Allowance, IsAllowed}
use Rattle.pam_paths.specs.Paths.{PathValue}
use Rattle.pam_paths.specs.declared.knowledge.Known.{Known}
use Rattle.pam_findings.specs.host.Callers.{caller_is_root, is_daemon_service, is_greeter}
use Rattle.pam_findings.specs.host.Faillock.{has_task}
use Rattle.pam_findings.specs.host.Host.{Host, Meets, Verdicts, service_at, survey_at}
use Rattle.pam_facts.specs.arguments.Calls.{lack_in}
use Rattle.pam_findings.specs.host.Arguments.{wrong_argument}
use Rattle.pam_findings.specs.host.Levels.{level_of, level_of_argument}
use Rattle.pam_findings.specs.host.Links.{WithLinks}
use Rattle.pam_findings.specs.host.MissingFiles.{missing_file}
use Rattle.pam_findings.specs.host.OtherAnswers.{is_only_included}
use Rattle.pam_findings.specs.host.Problems.{compare_places, place_of}
use Rattle.pam_findings.specs.host.Report.{IsMetFinding, IsReportOn}
use Rattle.pam_findings.specs.host.Storing.{failures, refuses, stores}
use Rattle.pam_findings.specs.host.Tokens.{may_ask_for, only_takes}
use Rattle.pam_findings.specs.host.Verdicts.{IsCauseOf, IsFailing, IsFree, IsOpen, LetsNobody, SaysWhoLogsIn, answers_on, way_in_of}
use Rattle.pam_findings.specs.declared.host.alone.Whole.{Whole}
use Rattle.pam_findings.specs.declared.host.alone.Whole.TheVariants.{Anybody, Nobody}
use Rattle.pam_explain.specs.declared.explanation.Level.TheVariants.{Note}
use Rattle.pam_findings.specs.declared.host.problem.ArgumentProblem.{ArgumentProblem}
use Rattle.pam_findings.specs.declared.host.problem.Place.{Place}
use Rattle.pam_findings.specs.declared.host.problem.Problem.{Problem}
use Rattle.pam_findings.specs.declared.host.problem.Problem.TheVariants as problems
use Rattle.pam_findings.specs.declared.host.problem.Spot.{Spot}
use Rattle.pam_findings.specs.declared.host.refusing.Refuser.{Refuser}
use Rattle.pam_findings.specs.declared.host.report.Finding.{Finding}
use Rattle.pam_findings.specs.declared.host.way_in.Answered.{Answered}
use Rattle.pam_findings.specs.declared.host.way_in.WayIn.{WayIn}

-- no finding is at or above warning
abbrev pub IsSilent : BTreeMap Place Finding → Type 0
IsSilent found = All (λ entry. level_of entry.1.problem ≡ Note) found.entries

-- a program may ask for the service: it has rules of its own for the kind, or its file is not one that others include
abbrev pub IsAskedFor : Host → ℕ → Kind → Type 0
IsAskedFor host service kind = is_only_included host.folder (service_at host service) (survey_at host service kind) ≡ false

-- others include the file of the service
abbrev pub is_included_at : Host → ℕ → Bool
is_included_at host service = is_target host.folder (service_at host service)

-- some run asks a module that may ask for a token, and then the module with this number
abbrev pub SomeAsksBefore : Kind → Known → Items → ℕ → Type 0
SomeAsksBefore kind free items number =
    (first : ℕ) × (rule : ModuleText) × (module_at first items ≡ Some rule) × (may_ask_for kind rule ≡ true)
    × Leads (may_answer free) items all_codes first number

-- some run asks a rule of pam_faillock with this task
abbrev pub SomeHasTask : Bool → Known → Items → Type 0
SomeHasTask counts free items =
    (number : ℕ) × (rule : ModuleText) × (module_at number items ≡ Some rule) × (has_task counts rule ≡ true) × Asks (may_answer free) items number

-- some run asks a module that says who logs in, which fails, and then the module with this number
abbrev pub SomeFailsBefore : Known → Known → Items → ℕ → Type 0
SomeFailsBefore free failing items number = (first : ℕ) × SaysWhoLogsIn failing first × Leads (may_answer free) items failures first number

-- A SOUND STACK of a service for a kind: it is accepted; if a program may ask for it, some answers let somebody in, unless its modules only
-- deny and warn, or it begins with a denial that fails it; for auth, if a program may ask for it that is no greeter, none let in anybody
-- whose checks all fail, and if somebody is let in, each module that says who logs in and may succeed does so in some run that lets
-- somebody in; no module looks at the user of the process where that is root, in the service of a daemon that asks for auth; no module has
-- an argument that it does not take, but for what is a note, or that names a file which it needs and which is not there; and the arguments
-- of none lack anything.
--
-- If others do not include its file, a module that only takes a token and that some run asks is in some run asked after one that may ask
-- for a token. For password, no run asks a module that stores a new password, for which it may ask itself, after one that refused it. For
-- auth, if the stack has a rule of pam_faillock that counts failures, some run asks one that refuses who failed too often, and the other
-- way round; and if others do not include its file, each rule that counts them and that some run asks is in some run asked after a module
-- that says who logs in failed
pub record IsSoundStack (host : Host) (service : ℕ) (kind : Kind) : Type 0 where
  pub items : Items
  pub stack : resolved host.folder (service_at host service) kind ≡ Ok items
  pub free : Known
  pub failing : Known
  pub is_free : IsFree host.modules kind items free
  pub is_failing : IsFailing host.modules kind items failing
  pub somebody : IsAskedFor host service kind → IsOpen kind items → LetsIn (may_answer free) items
  pub nobody_else : kind ≡ Auth → IsAskedFor host service kind → is_greeter (service_at host service) ≡ false →
      (answers : Assignment) → IsAllowed (may_answer failing) (module_count items) answers → decided items answers ≡ success → ⊥
  pub counts : kind ≡ Auth → LetsIn (may_answer free) items → (number : ℕ) → SaysWhoLogsIn failing number →
      AsksWith (may_answer free) items number success → Counts (may_answer free) items number
  pub arguments : (number : ℕ) (rule : ModuleText) (position : ℕ) (wrong : ArgumentProblem) → module_at number items ≡ Some rule →
      wrong_argument host.modules.facts kind rule position ≡ Some wrong → level_of_argument wrong ≡ Note
  pub files : (number : ℕ) (rule : ModuleText) (position : ℕ) (wrong : ArgumentProblem) → module_at number items ≡ Some rule →
      missing_file host.modules.files kind rule position ≡ Some wrong → ⊥
  pub caller : (number : ℕ) (rule : ModuleText) → module_at number items ≡ Some rule → is_daemon_service (service_at host service) ≡ true →
      caller_is_root kind (service_at host service) rule ≡ true → ⊥
  pub whole : (number : ℕ) (rule : ModuleText) (lack : Lack) → module_at number items ≡ Some rule → lack_in kind rule ≡ Some lack → ⊥
  pub tokens : is_included_at host service ≡ false → (number : ℕ) (rule : ModuleText) → module_at number items ≡ Some rule →
      only_takes kind rule ≡ true → Asks (may_answer free) items number → SomeAsksBefore kind free items number
  pub refusals : kind ≡ Password → (by : Refuser) (first later : ℕ) (refusing storing : ModuleText) →
      module_at first items ≡ Some refusing → refuses by refusing ≡ true → module_at later items ≡ Some storing → stores storing ≡ true →
      Leads (may_answer free) items failures first later → ⊥
  pub tasks : kind ≡ Auth → (task : Bool) (number : ℕ) (rule : ModuleText) → module_at number items ≡ Some rule → has_task task rule ≡ true →
      SomeHasTask (not task) free items
  pub failures_count : kind ≡ Auth → is_included_at host service ≡ false → (number : ℕ) (rule : ModuleText) → module_at number items ≡ Some rule →
      has_task true rule ≡ true → Asks (may_answer free) items number → SomeFailsBefore free failing items number

-- each stack of a host without such a finding is sound
abbrev pub SilentHostIsSound : Type 0
SilentHostIsSound =
    (host : Host) (named : List (List ℕ)) (found : BTreeMap Place Finding) (ways : List (Option WayIn)) →
    IsReportOn host named found ways → IsSilent found →
    (service : ℕ) (kind : Kind) → service < length host.services → IsSoundStack host service kind

-- the modules that a stack asks, in order, with their answers
abbrev pub answers_given : Items → Assignment → List Answered
answers_given items answers =
    map (λ ask. let a : Answered = record { number = ask.module_number; code = answers ask.module_number } in a) (asked items start_state start_state answers)

-- THESE ANSWERS LET SOMEBODY IN: they are those of the modules that the stack asks, in order, under answers that are allowed, and it
-- decides success
pub record LetIn (allows : Allowance) (items : Items) (given : List Answered) : Type 0 where
  pub answers : Assignment
  pub allowed : IsAllowed allows (module_count items) answers
  pub are_given : answers_given items answers ≡ given
  pub decides : decided items answers ≡ success

-- the answers on the first way in let somebody in
abbrev pub FirstWayLetsIn : Type 0
FirstWayLetsIn =
    (allows : Allowance) (items : Items) (path : PathValue) → IsNumbered items → IsFirstWayIn allows items path →
    LetIn allows items (answers_on allows path)

-- a way in is the stack of its service for auth, and its answers let somebody in although each module that checks who logs in fails
pub record IsTrueWayIn (host : Host) (service : ℕ) (way : WayIn) : Type 0 where
  pub stack : resolved host.folder (service_at host service) Auth ≡ Ok way.stack
  pub failing : Known
  pub is_failing : IsFailing host.modules Auth way.stack failing
  pub let_in : LetIn (may_answer failing) way.stack way.answers.items

-- each way in of a report is such
abbrev pub WaysInLetIn : Type 0
WaysInLetIn =
    (host : Host) (named : List (List ℕ)) (found : BTreeMap Place Finding) (ways : List (Option WayIn)) → IsReportOn host named found ways →
    (service : ℕ) (way : WayIn) → service < length host.services → slice_index_or ways service None ≡ Some way → IsTrueWayIn host service way

-- a host whose findings with S27 are all notes has only notes without it
abbrev pub LinksAreNotes : Type 0
LinksAreNotes =
    (host : Host) (named : List (List ℕ)) (old : BTreeMap Place Finding) (ways : List (Option WayIn)) → IsReportOn host named old ways →
    (outside : List Bool) (new : BTreeMap Place Finding) → WithLinks outside old new → IsSilent new → IsSilent old

-- S1 OR S2 OF A STACK, for which a program may ask
abbrev pub HasWhole : Host → Verdicts → Whole → ℕ → Kind → Type 0
HasWhole host verdicts Nobody service kind = LetsNobody kind (verdicts service kind) × IsAskedFor host service kind
HasWhole host verdicts Anybody service kind = (kind ≡ Auth) × IsSome (way_in_of (verdicts service kind)) × IsAskedFor host service kind

-- S1 or S2 of a kind
abbrev pub IsWhole : Whole → Kind → Problem → Type 0
IsWhole Nobody kind (problems.LetsNobodyIn service of_kind) = of_kind ≡ kind
IsWhole Anybody kind (problems.LetsAnybodyIn service is_greeter) = kind ≡ Auth
IsWhole whole kind problem = ⊥

-- A STACK HAS IT ONCE: in one finding, which is told at its cause; and there is no other that it meets
pub record IsToldOnce (host : Host) (verdicts : Verdicts) (found : BTreeMap Place Finding) (whole : Whole) (service : ℕ) (kind : Kind) : Type 0 where
  pub spot : Spot
  pub is : IsWhole whole kind spot.problem
  pub cause : IsCauseOf host.folder host.modules (service_at host service) kind whole spot.file
  pub line : spot.line ≡ 0
  pub finding : Finding
  pub told : get compare_places found (place_of spot) ≡ Some finding
  pub met : IsMetFinding (Meets host verdicts spot) spot finding
  pub meets : Meets host verdicts spot service kind
  pub only : (other : Spot) → IsWhole whole kind other.problem → Meets host verdicts other service kind → other ≡ spot

-- each stack that has S1 or S2 has it once
abbrev pub WholesAreToldOnce : Type 0
WholesAreToldOnce =
    (host : Host) (named : List (List ℕ)) (found : BTreeMap Place Finding) (ways : List (Option WayIn)) (report : IsReportOn host named found ways)
    (whole : Whole) (service : ℕ) (kind : Kind) → service < length host.services → HasWhole host report.verdicts whole service kind →
    IsToldOnce host report.verdicts found whole service kind

-- and only such stacks meet S1 and S2
abbrev pub OnlyWholesAreTold : Type 0
OnlyWholesAreTold =
    (host : Host) (verdicts : Verdicts) (whole : Whole) (service : ℕ) (kind of_kind : Kind) (spot : Spot) → IsWhole whole of_kind spot.problem →
    Meets host verdicts spot service kind → (kind ≡ of_kind) × HasWhole host verdicts whole service kind
