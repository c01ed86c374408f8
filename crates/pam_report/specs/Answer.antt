-- The answer to a request: the reply that its inputs imply, or the first fault.
use Rattle.std.specs.Prelude.{◌≡◌, ℕ, ◌&&◌, List, [], map, nat_lt, Option, Some, None, Result, Ok, Err, ◌==◌, if◌then◌else◌, length, slice_get, unwrap_or}
use Rattle.std.specs.Char.{to_ascii_lowercase}
use Rattle.std.specs.Option.{option_copied}
use Rattle.pam_conf.specs.Files.{Folder}
use Rattle.pam_conf.specs.Resolution.{resolved}
use Rattle.pam_conf.specs.Stack.{Items, module_count}
use Rattle.pam_conf.specs.declared.conf_error.ConfError.{ConfError}
use Rattle.pam_conf.specs.declared.rule.Kind.{Kind}
use Rattle.jiff.specs.Types.{DateTime}
use Rattle.pam_explain.specs.Explanation.{Explanation}
use Rattle.pam_explain.specs.Explanations.{explanation_of}
use Rattle.pam_dispatch.specs.Runs.{answers_of}
use Rattle.pam_dispatch.specs.State.{start_state}
use Rattle.pam_dispatch.specs.Tree.{asked, decided}
use Rattle.pam_tables.specs.Groups.{Group}
use Rattle.pam_tables.specs.Login.{LoginText}
use Rattle.pam_tables.specs.Options.{Options, options_of}
use Rattle.pam_tables.specs.declared.error.Table.TheVariants as tables
use Rattle.pam_tables.specs.declared.error.TableFault.{TableFault}
use Rattle.pam_tables.specs.times.Reading.{rules_of}
use Rattle.pam_tables.specs.times.Times.{Rule, answer_of as time_answer_of}
use Rattle.pam_tables.specs.declared.times.error.TimeError.{TimeError}
use Rattle.pam_tables.specs.declared.times.moments.MomentError.{MomentError}
use Rattle.pam_facts.specs.known.Access.{is_by_line, tables_decide}
use Rattle.pam_facts.specs.settings.Settings.{SettingText, setting_view}
use Rattle.pam_facts.specs.declared.known.access.AccessDecision.{AccessDecision}
use Rattle.pam_facts.specs.declared.known.error.NumberedError.{NumberedError}
use Rattle.pam_words.specs.declared.wanted.Answers.{Answers}
use Rattle.pam_words.specs.declared.wanted.Login.{Login}
use Rattle.pam_words.specs.declared.wanted.ReleaseName.{ReleaseName}
use Rattle.pam_words.specs.declared.wanted.Task.{Task}
use Rattle.pam_words.specs.declared.wanted.Task.TheVariants.{Show, Decide, Access, Time, Paths, Outcomes, Graph, Check, Compare, Policy, Needs}
use Rattle.pam_words.specs.declared.wanted.Task.TheVariants.{Explain, Facts, Version}
use Rattle.pam_report.specs.Candidates.{CandidateText, IfUsed, first_unused}
use Rattle.pam_report.specs.Check.{IsCheck}
use Rattle.pam_report.specs.Compare.{IsCompare}
use Rattle.pam_report.specs.Decide.{asked_modules}
use Rattle.pam_report.specs.Fault.{table_fault}
use Rattle.pam_report.specs.Graph.{IsGraphReply}
use Rattle.pam_report.specs.Inputs.{access_given, files_given, group_file, groups_in, no_files, there_given, time_given, unread_given}
use Rattle.pam_report.specs.KnownStack.{KnownItems, facts_asked, known_stack, with_facts}
use Rattle.pam_report.specs.Finds.{Finds}
use Rattle.pam_report.specs.Memory.{WantsOnly, wants}
use Rattle.pam_report.specs.Moments.{IsGivenMoment, IsMoment}
use Rattle.pam_report.specs.Needs.{IsNeeds}
use Rattle.pam_report.specs.Outcomes.{IsOutcomes}
use Rattle.pam_report.specs.Paths.{IsPage}
use Rattle.pam_report.specs.Policy.{IsPolicy, visitor_of}
use Rattle.pam_report.specs.Released.{released}
use Rattle.pam_report.specs.Reply.{Answer, Reply as ReplyValue, RunValue, Released, Run, Stacks}
use Rattle.pam_report.specs.Reply.{Explained, Explanations}
use Rattle.pam_report.specs.Reply.{Access as AccessReply, Facts as FactsReply, Time as TimeReply, Version as VersionReply}
use Rattle.pam_report.specs.Left.{IfAllRead, has_unread, services_left}
use Rattle.pam_report.specs.Services.{IfServices, has_asked, has_service, sides_have}
use Rattle.pam_report.specs.Settings.{with_settings}
use Rattle.pam_report.specs.Show.{for_each, kinds_shown, stack_in}
use Rattle.pam_report.specs.declared.inputs.Inputs.{Inputs}
use Rattle.pam_report.specs.declared.fault.Fault.{Fault}
use Rattle.pam_report.specs.declared.fault.Fault.TheVariants as faults
use Rattle.pam_report.specs.declared.report.replies.Reply.{Reply}

-- an answer from a stack, or the stack's fault
abbrev pub with_stack : Result Items ConfError → (Items → Answer) → Answer
with_stack (Err e) next = Err (faults.Conf e)
with_stack (Ok items) next = next items

-- an answer that has these values, or the fault of what they are found in
abbrev pub answer_of : {V : Type 0} → (V → ReplyValue) → Result V ConfError → Answer
answer_of reply (Err e) = Err (faults.Conf e)
answer_of reply (Ok values) = Ok (reply values)

-- what is shown for these kinds: the stack, or the rules of the service's own file as a release reads them, if one is named
abbrev pub shown_for : Option ReleaseName → List ℕ → List Kind → Folder → Answer
shown_for None service kinds files = answer_of Stacks (for_each (stack_in service files) kinds)
shown_for (Some release) service kinds files = answer_of Released (for_each (λ kind. released service kind release files) kinds)

-- the same, for the kind that is named, or for all
abbrev pub shown_by : Option ReleaseName → List ℕ → Option Kind → Folder → Answer
shown_by release service kind files = shown_for release service (kinds_shown kind) files

-- the run of a stack whose modules return these codes
abbrev pub run_of : List ℕ → Kind → List ℕ → Items → RunValue
run_of service kind answered items = record {
  service = service;
  kind = kind;
  modules = module_count items;
  asked = asked_modules items (answers_of answered) (asked items start_state start_state (answers_of answered));
  decision = decided items (answers_of answered);
}

-- a code is given for each module, also for those never asked
abbrev pub decided_by : List ℕ → Kind → List ℕ → Items → Answer
decided_by service kind answered items =
    if length answered == module_count items then Ok (Run (run_of service kind answered items))
    else Err (faults.Count (record { modules = module_count items }))

-- ---- explanations

abbrev pub explained_by : Option Explanation → Answer
explained_by None = Err faults.NoSuchNumber
explained_by (Some explanation) = Ok (Explained explanation)

-- the explanation of a number, or all if none is given
abbrev pub explained : Option (List ℕ) → Answer
explained None = Ok Explanations
explained (Some number) = explained_by (explanation_of number)

-- ---- access tables

-- the name of the table whose line decides, if several are named
abbrev pub table_of_line : List (List ℕ) → AccessDecision → Option (List ℕ)
table_of_line names decision = if nat_lt 1 (length names) && is_by_line decision.answer then slice_get names decision.number else None

-- the first line that matches, over all tables in turn. The first are the names of the tables
abbrev pub with_decision : List (List ℕ) → Result AccessDecision NumberedError → Answer
with_decision names (Err e) = Err (faults.Table e)
with_decision names (Ok decision) = Ok (AccessReply decision.answer (table_of_line names decision))

-- a fault of the group file comes before those of the tables
abbrev pub with_groups : LoginText → Options → List (List ℕ) → List (List ℕ) → Result (List Group) (TableFault × ℕ) → Answer
with_groups login options names contents (Err e) = Err (table_fault tables.Group e)
with_groups login options names contents (Ok groups) = with_decision names (tables_decide login groups options contents)

-- a login with arguments, in the tables with these names
abbrev pub looked_up : LoginText → List (List ℕ) → List (List ℕ) → Inputs → Answer
looked_up login arguments names inputs = with_groups login (options_of arguments) names (access_given inputs) (groups_in (group_file inputs))

-- ---- time tables

abbrev pub with_rules : LoginText → DateTime → Result (List Rule) TimeError → Answer
with_rules login moment (Err e) = Err (faults.Time e)
with_rules login moment (Ok rules) = Ok (TimeReply (time_answer_of rules login moment))

-- a fault of the moment comes before those of the table
abbrev pub timed : LoginText → List ℕ → Result DateTime MomentError → Answer
timed login bytes (Err e) = Err (faults.Moment e)
timed login bytes (Ok moment) = with_rules login moment (rules_of bytes)

-- ---- the answer to a request

-- a login to a service in lowercase
abbrev pub login_in : List ℕ → Login → LoginText
login_in service login = record { user = login.user.now; service = service; tty = login.tty.now; rhost = login.rhost.now }

-- a login to a service, which is lowercased
abbrev pub login_at : List ℕ → Login → LoginText
login_at service login = login_in (map to_ascii_lowercase service) login

-- the stack of a service for a kind, from these files, with the codes that its modules may return to a login at a moment
abbrev pub stack_at : List ℕ → Kind → Login → Answers → List SettingText → Inputs → Option (Result DateTime MomentError) → Folder → Result KnownItems Fault
stack_at service kind login answers settings inputs moment files =
    with_settings files (there_given inputs) settings
    (with_facts (facts_asked answers inputs) (λ facts. known_stack kind (login_at service login) inputs facts moment (resolved files service kind)))

-- what a call gives that answers a task for a service with these candidates, from these files and the tables of these inputs, if this is what it
-- gives for an answer that satisfies a relation
module _ (Gives : (Answer → Type 0) → Type 0) where
  unfoldable pub AnswersBy : List ℕ → List CandidateText → Task → Folder → Inputs → Type 0
  AnswersBy service candidates (Show source kind release) files inputs = Gives (λ answer. shown_by release service kind files ≡ answer)
  AnswersBy service candidates (Decide source kind answered) files inputs =
      Gives (λ answer. with_stack (resolved files service kind) (decided_by service kind answered.items) ≡ answer)
  AnswersBy service candidates (Access names groups passwd login arguments) files inputs =
      Gives (λ answer. looked_up (login_at service login) arguments (map (λ s. s.now) names.items) inputs ≡ answer)
  AnswersBy service candidates (Time table login moment) files inputs =
      (at : Result DateTime MomentError) × IsMoment moment at
      × Gives (λ answer. timed (login_at service login) (time_given inputs) at ≡ answer)
  AnswersBy service candidates (Paths source kind limit part filter knowledge) files inputs =
      (at : Option (Result DateTime MomentError)) × IsGivenMoment knowledge.moment at
      × Gives
      (IsPage (record { service = service; kind = kind; limit = limit; part = part; filter = filter })
      (stack_at service kind knowledge.login knowledge.answers (map setting_view knowledge.settings.items) inputs at files))
  AnswersBy service candidates (Outcomes source kind knowledge) files inputs =
      (at : Option (Result DateTime MomentError)) × IsGivenMoment knowledge.moment at
      × Gives (IfServices (has_service files service)
      (IsOutcomes service kind (stack_at service kind knowledge.login knowledge.answers (map setting_view knowledge.settings.items) inputs at files)))
  AnswersBy service candidates (Needs source kind knowledge) files inputs =
      (at : Option (Result DateTime MomentError)) × IsGivenMoment knowledge.moment at
      × Gives (IfServices (has_service files service) (IsNeeds (record {
        service = service;
        kind = kind;
        visitor = visitor_of knowledge.login;
        settings = map setting_view knowledge.settings.items;
        moment = at;
      }) files inputs))
  AnswersBy service candidates (Check source services fail_on named) files inputs =
      Gives (IfServices (has_asked files services)
      (IfUsed (first_unused files services candidates)
      (IfAllRead (has_unread (unread_given inputs)) services (services_left files (unread_given inputs) services)
      (λ checked. IsCheck checked fail_on named files inputs))))
  AnswersBy service candidates (Compare old new named kind given) files inputs =
      Gives (IfServices (sides_have inputs (option_copied named))
      (IsCompare (option_copied named) kind (map setting_view given.settings.items) inputs))
  AnswersBy service candidates (Policy source names fail_on knowledge) files inputs =
      (at : Option (Result DateTime MomentError)) × IsGivenMoment knowledge.moment at
      × Gives (IfUsed (first_unused files [] candidates) (IsPolicy (record {
        names = map (λ n. n.now) names.items;
        fail_on = fail_on;
        visitor = visitor_of knowledge.login;
        settings = map setting_view knowledge.settings.items;
        moment = at;
      }) files inputs))
  AnswersBy service candidates (Explain number) files inputs = Gives (λ answer. explained (option_copied number) ≡ answer)
  AnswersBy service candidates Facts files inputs = Gives (λ answer. Ok FactsReply ≡ answer)
  AnswersBy service candidates Version files inputs = Gives (λ answer. Ok VersionReply ≡ answer)
  AnswersBy service candidates (Graph source kind format knowledge) files inputs =
      (at : Option (Result DateTime MomentError)) × IsGivenMoment knowledge.moment at
      × Gives (IfServices (has_service files service)
      (IsGraphReply format service kind
      (stack_at service kind knowledge.login knowledge.answers (map setting_view knowledge.settings.items) inputs at files)))

-- THE REPLY to a task for a service with these candidates, from these inputs
abbrev pub Replies : Result Reply Fault → List ℕ → List CandidateText → Task → Inputs → Type 0
Replies result service candidates task inputs =
    AnswersBy (Finds result) service candidates task (unwrap_or (files_given inputs) no_files) inputs
    × WantsOnly (wants task inputs) result
