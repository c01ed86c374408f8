-- The command line: results of the library's functions, against the request that the words spell.
use Rattle.std.specs.Prelude.{◌≡◌, ◌⊎◌, ⊤, Option, None, Result, Ok, Err, [], codes, map, option_map}
use Rattle.std.specs.Borrow.{Bor}
use Rattle.std.specs.Option.{option_copied}
use Rattle.clap.specs.Words.{IsAmong, Kinds, Text, kind_of}
use Rattle.clap.specs.declared.error.ErrorKind.TheVariants.{DisplayHelp, DisplayVersion}
use Rattle.clap.specs.declared.error.ErrorKind.{ErrorKind}
use Rattle.pam_facts.specs.settings.Settings.{setting_view}
use Rattle.pam_words.specs.Asked.{AnswersText, KnowledgeText, LoginText, MomentText, PartText, Refusal, RequestText, SourceText, TaskText}
use Rattle.pam_words.specs.Asked as spec
use Rattle.pam_words.specs.declared.wanted.Answers.{Answers as KnownAnswers}
use Rattle.pam_words.specs.declared.wanted.Answers.TheVariants.{Any, Possible}
use Rattle.pam_words.specs.declared.wanted.Candidate.{Candidate}
use Rattle.pam_words.specs.declared.wanted.ConfSource.{ConfSource}
use Rattle.pam_words.specs.declared.wanted.ConfSource.TheVariants.{Dir, Over, Conf, Root}
use Rattle.pam_words.specs.declared.wanted.KnowledgeSource.{KnowledgeSource}
use Rattle.pam_words.specs.declared.wanted.Login.{Login}
use Rattle.pam_words.specs.declared.wanted.Moment.{Moment}
use Rattle.pam_words.specs.declared.wanted.Moment.TheVariants.{Civil, Instant}
use Rattle.pam_words.specs.declared.wanted.PagePart.{PagePart}
use Rattle.pam_words.specs.declared.wanted.PagePart.TheVariants.{Whole, After, Before}
use Rattle.pam_words.specs.declared.wanted.Task.{Task}
use Rattle.pam_words.specs.declared.wanted.Task.TheVariants.{Check, Compare, Show, Decide, Access, Time, Paths, Outcomes, Graph, Policy}
use Rattle.pam_words.specs.declared.wanted.Task.TheVariants.{Explain, Facts, Needs, Version}
use Rattle.pam_words.specs.declared.wanted.Request.{Request}
use Rattle.pam_words.specs.declared.wanted.Usage.{Usage}
use Rattle.pam_words.specs.declared.wanted.Usage.TheVariants as usage

-- ---- a request as its texts

abbrev pub source_view : ConfSource → SourceText
source_view (Dir folder) = spec.dir folder.now
source_view (Over folder vendor) = spec.over folder.now vendor.now
source_view (Conf name) = spec.conf name.now
source_view (Root folder) = spec.root folder.now

abbrev pub moment_view : Moment → MomentText
moment_view (Civil text) = spec.civil text.now
moment_view (Instant seconds zone) = spec.instant seconds zone.now

abbrev pub part_view : PagePart → PartText
part_view Whole = spec.whole
part_view (After cursor) = spec.after cursor.now
part_view (Before cursor) = spec.before cursor.now

abbrev pub login_view : Login → LoginText
login_view login = record { user = login.user.now; rhost = login.rhost.now; tty = login.tty.now }

abbrev pub answers_view : KnownAnswers → AnswersText
answers_view Any = spec.any
answers_view (Possible facts) = spec.possible (option_copied facts)

-- the facts file that is read, if one is named: none where any code is possible
abbrev pub facts_named : KnownAnswers → Option (Bor Text)
facts_named Any = None
facts_named (Possible facts) = facts

abbrev pub knowledge_view : KnowledgeSource → KnowledgeText
knowledge_view k = record {
  modules = map (λ s. s.now) k.modules.items;
  login = login_view k.login;
  access = map (λ s. s.now) k.tables.access.items;
  time = option_copied k.tables.time;
  groups = option_copied k.tables.groups;
  passwd = option_copied k.passwd;
  returns = option_copied k.returns;
  settings = map setting_view k.settings.items;
  moment = option_map moment_view k.moment;
  answers = answers_view k.answers;
}

abbrev pub task_view : Task → TaskText
task_view (Check source services fail_on given) = spec.check (record {
  source = source_view source;
  services = services;
  fail_on = fail_on;
  modules = map (λ s. s.now) given.modules.items;
  access = map (λ s. s.now) given.tables.access.items;
  time = option_copied given.tables.time;
  groups = option_copied given.tables.groups;
  facts = option_copied given.facts;
  accept = option_copied given.accept;
})
task_view (Compare old new service kind given) = spec.compare (record {
  old = source_view old;
  new = source_view new;
  service = option_copied service;
  kind = kind;
  modules = map (λ s. s.now) given.modules.items;
  facts = option_copied given.facts;
  returns = option_copied given.returns;
  settings = map setting_view given.settings.items;
})
task_view (Show source kind release) = spec.show (record { source = source_view source; kind = kind; release = release })
task_view (Decide source kind codes) = spec.decide (source_view source) kind codes.items
task_view (Access tables groups passwd login arguments) = spec.access (record {
  tables = map (λ s. s.now) tables.items;
  groups = option_copied groups;
  passwd = option_copied passwd;
  login = login_view login;
  arguments = arguments;
})
task_view (Time table login moment) = spec.time (record {
  table = table.now;
  login = login_view login;
  moment = moment_view moment;
})
task_view (Paths source kind limit part filter knowledge) = spec.paths (record {
  source = source_view source;
  kind = kind;
  limit = limit;
  part = part_view part;
  filter = filter;
  knowledge = knowledge_view knowledge;
})
task_view (Outcomes source kind knowledge) = spec.outcomes (record {
  source = source_view source;
  kind = kind;
  knowledge = knowledge_view knowledge;
})
task_view (Graph source kind format knowledge) = spec.graph (record {
  source = source_view source;
  kind = kind;
  format = format;
  knowledge = knowledge_view knowledge;
})
task_view (Policy source policies fail_on knowledge) = spec.policy (record {
  source = source_view source;
  policies = map (λ s. s.now) policies.items;
  fail_on = fail_on;
  knowledge = knowledge_view knowledge;
})
task_view (Needs source kind knowledge) = spec.needs (record {
  source = source_view source;
  kind = kind;
  knowledge = knowledge_view knowledge;
})
task_view (Explain number) = spec.explain (option_copied number)
task_view Facts = spec.facts
task_view Version = spec.version

abbrev pub candidate_view : Candidate → Text × Text
candidate_view candidate = (candidate.name.now, candidate.file.now)

abbrev pub request_view : Request → RequestText
request_view request = record {
  service = request.service.now;
  task = task_view request.task;
  candidates = map candidate_view request.candidates.items;
  output = request.output;
}

-- ---- results, if `clap` accepts the words

-- the result is the value or its refusal, unless an allocation failed
abbrev pub Gives : {A B : Type 0} → (A → B) → Result B Refusal → Result A Usage → Type 0
Gives view value (Ok x) = value ≡ Ok (view x)
Gives view value (Err usage.Source) = value ≡ Err spec.source
Gives view value (Err usage.KindName) = value ≡ Err spec.kind_name
Gives view value (Err usage.CodeName) = value ≡ Err spec.code_name
Gives view value (Err usage.FormatName) = value ≡ Err spec.format_name
Gives view value (Err usage.LevelName) = value ≡ Err spec.level_name
Gives view value (Err usage.AnswersName) = value ≡ Err spec.answers_name
Gives view value (Err usage.Login) = value ≡ Err spec.login
Gives view value (Err usage.Moment) = value ≡ Err spec.moment
Gives view value (Err usage.BothEnds) = value ≡ Err spec.both_ends
Gives view value (Err usage.BothFilters) = value ≡ Err spec.both_filters
Gives view value (Err usage.ReleaseForm) = value ≡ Err spec.release_form
Gives view value (Err usage.CandidateForm) = value ≡ Err spec.candidate_form
Gives view value (Err usage.SettingForm) = value ≡ Err spec.setting_form
Gives view value (Err usage.Memory) = ⊤
Gives view value (Err (usage.Help error)) = ⊥
Gives view value (Err (usage.Words error)) = ⊥
Gives view value (Err usage.NotUtf8) = ⊥

abbrev pub Answers : Result RequestText Refusal → Result Request Usage → Type 0
Answers = Gives request_view

-- ---- results, if `clap` may refuse the words

-- an allocation failed, or `clap` refused the words
abbrev pub IsRefusal : Result Request Usage → Type 0
IsRefusal (Err usage.Memory) = ⊤
IsRefusal (Err (usage.Help error)) = ⊤
IsRefusal (Err (usage.Words error)) = ⊤
IsRefusal _ = ⊥

-- `clap` accepted the words
abbrev pub IsRead : Result Request Usage → Type 0
IsRead (Err (usage.Help error)) = ⊥
IsRead (Err (usage.Words error)) = ⊥
IsRead (Err usage.NotUtf8) = ⊥
IsRead _ = ⊤

-- the result is the request or its refusal, unless `clap` refused the words
abbrev pub Reads : Result RequestText Refusal → Result Request Usage → Type 0
Reads asked (Err (usage.Help error)) = ⊤
Reads asked (Err (usage.Words error)) = ⊤
Reads asked (Err other) = Answers asked (Err other)
Reads asked (Ok request) = Answers asked (Ok request)

-- help or the version is asked for
abbrev pub IsHelp : ErrorKind → Type 0
IsHelp kind = (kind ≡ DisplayHelp) ⊎ (kind ≡ DisplayVersion)

-- `clap` refuses the words if and only if they have a kind of error: with a text if help or the version is asked for, else as
-- wrong words
abbrev pub RefusesBy : Kinds → Result Request Usage → Type 0
RefusesBy kinds (Err usage.Memory) = ⊤
RefusesBy kinds (Err (usage.Help error)) = IsAmong (kind_of error) kinds × IsHelp (kind_of error)
RefusesBy kinds (Err (usage.Words error)) = IsAmong (kind_of error) kinds × (IsHelp (kind_of error) → ⊥)
RefusesBy kinds _ = kinds ≡ []
