-- The command line: the request that the values found by `clap` spell, or its first refusal.
use Rattle.std.specs.Prelude.{List, [], codes, Option, Some, None, Result, Ok, Err, if◌then◌else◌}
use Rattle.std.specs.Str.{bytes_eq}
use Rattle.pam_conf.specs.declared.Kind.{Kind}
use Rattle.clap.specs.Words.{Row, Text, first_of}
use Rattle.pam_words.specs.Asked.{AnswersText, KnowledgeText, MomentText, Refusal, RequestText, SourceText, TaskText}
use Rattle.pam_words.specs.Asked.{access, check, compare, decide, explain, facts, graph, needs, outcomes, paths, policy, show, time, version}
use Rattle.pam_words.specs.Asked.{answers_name, any, both_ends, both_filters, code_name, format_name, kind_name, level_name, possible}
use Rattle.pam_words.specs.Asked.{login, moment, release_form, source}
use Rattle.pam_words.specs.Candidates.{services_among}
use Rattle.pam_words.specs.Decisions.{decisions_of}
use Rattle.pam_words.specs.Settings.{settings_of}
use Rattle.pam_words.specs.Values.{answers_of, asks_of, candidates_of, codes_of_rows, format_of, kind_if_named, kind_of_rows, lacks_user}
use Rattle.pam_words.specs.Values.{level_of, limit_of, login_of}
use Rattle.pam_words.specs.declared.wanted.OutputForm.{OutputForm}
use Rattle.pam_words.specs.Values.{moment_of, needs_moment, one_filter, output_of, part_of, release_of, side_in, source_of, source_or_root, text_of, texts_of}

-- a refusal if there is no value
abbrev pub or_refuse : {A B : Type 0} → Option A → Refusal → (A → Result B Refusal) → Result B Refusal
or_refuse None refusal next = Err refusal
or_refuse (Some value) refusal next = next value

infixl 10 ◌>>=◌
abbrev pub ◌>>=◌ : {A B : Type 0} → Result A Refusal → (A → Result B Refusal) → Result B Refusal
(Ok value) >>= next = next value
(Err refusal) >>= next = Err refusal

-- the source, then KIND
abbrev pub stack_of : List Row → Result (SourceText × Kind) Refusal
stack_of rows =
    or_refuse (source_of rows) source (λ from.
    or_refuse (kind_of_rows rows) kind_name (λ kind.
    Ok (from, kind)))

-- the same, where the source is the running system if no option names one
abbrev pub stack_or_root : List Row → Result (SourceText × Kind) Refusal
stack_or_root rows =
    or_refuse (source_or_root rows) source (λ from.
    or_refuse (kind_of_rows rows) kind_name (λ kind.
    Ok (from, kind)))

-- `check [SERVICE]...`
abbrev pub check_task : List Row → Result TaskText Refusal
check_task rows =
    or_refuse (source_or_root rows) source (λ from.
    or_refuse (level_of rows) level_name (λ level.
    Ok (check (record {
      source = from;
      services = services_among (texts_of (codes "name") rows);
      fail_on = level;
      modules = texts_of (codes "modules") rows;
      access = texts_of (codes "access") rows;
      time = first_of (codes "time") rows;
      groups = first_of (codes "group") rows;
      facts = first_of (codes "facts") rows;
      accept = first_of (codes "accept") rows;
    }))))

-- `compare OLD NEW [SERVICE [KIND]]`
abbrev pub compare_task : List Row → Result TaskText Refusal
compare_task rows =
    or_refuse (side_in (codes "old") rows) source (λ old.
    or_refuse (side_in (codes "new") rows) source (λ new.
    or_refuse (kind_if_named rows) kind_name (λ kind.
    settings_of rows >>= λ settings.
    Ok (compare (record {
      old = old;
      new = new;
      service = first_of (codes "service") rows;
      kind = kind;
      modules = texts_of (codes "modules") rows;
      facts = first_of (codes "facts") rows;
      returns = first_of (codes "returns") rows;
      settings = settings;
    })))))

-- `show SERVICE [KIND]`
abbrev pub show_task : List Row → Result TaskText Refusal
show_task rows =
    or_refuse (source_of rows) source (λ from.
    or_refuse (kind_if_named rows) kind_name (λ kind.
    or_refuse (release_of rows) release_form (λ release.
    Ok (show (record { source = from; kind = kind; release = release })))))

-- `decide SERVICE KIND [CODE]...`
abbrev pub decide_task : List Row → Result TaskText Refusal
decide_task rows =
    stack_of rows >>= λ stack.
    or_refuse (codes_of_rows rows) code_name (λ codes.
    Ok (decide stack.0 stack.1 codes))

-- the moment, if one is needed
abbrev pub moment_if_needed : List Row → Result (Option MomentText) Refusal
moment_if_needed rows =
    if needs_moment rows then or_refuse (moment_of rows) moment (λ at. Ok (Some at)) else Ok None

-- folders of modules, a login and a moment, tables, a passwd file, a returns file, the codes of modules, and what others may return
abbrev pub knowledge_of : AnswersText → List Row → Result KnowledgeText Refusal
knowledge_of answers rows =
    settings_of rows >>= λ settings.
    if lacks_user rows then Err login else
    moment_if_needed rows >>= λ at.
    Ok (record {
      modules = texts_of (codes "modules") rows;
      login = login_of rows;
      access = texts_of (codes "access") rows;
      time = first_of (codes "time") rows;
      groups = first_of (codes "group") rows;
      passwd = first_of (codes "passwd") rows;
      returns = first_of (codes "returns") rows;
      settings = settings;
      moment = at;
      answers = answers;
    })

-- the same, with the answers that the words name
abbrev pub possible_knowledge_of : List Row → Result KnowledgeText Refusal
possible_knowledge_of rows = or_refuse (answers_of rows) answers_name (λ answers. knowledge_of answers rows)

-- `paths SERVICE KIND`, where a module of which nothing else tells may return any code
abbrev pub paths_task : List Row → Result TaskText Refusal
paths_task rows =
    stack_of rows >>= λ stack.
    or_refuse (decisions_of rows) code_name (λ decisions.
    knowledge_of any rows >>= λ knowledge.
    or_refuse (part_of rows) both_ends (λ part.
    or_refuse (one_filter decisions (asks_of rows)) both_filters (λ filter.
    Ok (paths (record {
      source = stack.0;
      kind = stack.1;
      limit = limit_of rows;
      part = part;
      filter = filter;
      knowledge = knowledge;
    })))))

-- `outcomes SERVICE KIND`
abbrev pub outcomes_task : List Row → Result TaskText Refusal
outcomes_task rows =
    stack_or_root rows >>= λ stack.
    possible_knowledge_of rows >>= λ knowledge.
    Ok (outcomes (record { source = stack.0; kind = stack.1; knowledge = knowledge }))

-- `graph SERVICE KIND`
abbrev pub graph_task : List Row → Result TaskText Refusal
graph_task rows =
    stack_or_root rows >>= λ stack.
    or_refuse (format_of rows) format_name (λ format.
    possible_knowledge_of rows >>= λ knowledge.
    Ok (graph (record { source = stack.0; kind = stack.1; format = format; knowledge = knowledge })))

-- `access SERVICE [ARGUMENT]...`
abbrev pub access_task : List Row → Result TaskText Refusal
access_task rows = Ok (access (record {
  tables = texts_of (codes "access") rows;
  groups = first_of (codes "group") rows;
  passwd = first_of (codes "passwd") rows;
  login = login_of rows;
  arguments = texts_of (codes "argument") rows;
}))

-- `time SERVICE`
abbrev pub time_task : List Row → Result TaskText Refusal
time_task rows =
    or_refuse (moment_of rows) moment (λ at.
    Ok (time (record {
      table = text_of (codes "time") rows;
      login = record (login_of rows) { rhost = [] };
      moment = at;
    })))

-- `policy POLICY...`, where what else is known of a module says what it may return of which nothing else tells
abbrev pub policy_task : List Row → Result TaskText Refusal
policy_task rows =
    or_refuse (source_or_root rows) source (λ from.
    or_refuse (level_of rows) level_name (λ level.
    knowledge_of (possible (first_of (codes "facts") rows)) rows >>= λ knowledge.
    Ok (policy (record {
      source = from;
      policies = texts_of (codes "policy") rows;
      fail_on = level;
      knowledge = knowledge;
    }))))

-- `needs SERVICE KIND`, where the same is known of modules
abbrev pub needs_task : List Row → Result TaskText Refusal
needs_task rows =
    stack_or_root rows >>= λ stack.
    knowledge_of (possible (first_of (codes "facts") rows)) rows >>= λ knowledge.
    Ok (needs (record { source = stack.0; kind = stack.1; knowledge = knowledge }))

-- `explain [NUMBER]`
abbrev pub explain_task : List Row → Result TaskText Refusal
explain_task rows = Ok (explain (first_of (codes "number") rows))

-- the task of a command that reads no configuration
abbrev pub other_task_of : Text → List Row → Result TaskText Refusal
other_task_of command rows =
    if bytes_eq command (codes "access") then access_task rows
    else if bytes_eq command (codes "time") then time_task rows
    else if bytes_eq command (codes "explain") then explain_task rows
    else if bytes_eq command (codes "facts") then Ok facts
    else Ok version

-- the task of a command about one stack, or of one without a configuration
abbrev pub stack_task_of : Text → List Row → Result TaskText Refusal
stack_task_of command rows =
    if bytes_eq command (codes "show") then show_task rows
    else if bytes_eq command (codes "decide") then decide_task rows
    else if bytes_eq command (codes "paths") then paths_task rows
    else if bytes_eq command (codes "outcomes") then outcomes_task rows
    else if bytes_eq command (codes "graph") then graph_task rows
    else if bytes_eq command (codes "needs") then needs_task rows
    else other_task_of command rows

-- THE TASK of a command
abbrev pub task_of : Text → List Row → Result TaskText Refusal
task_of command rows =
    if bytes_eq command (codes "check") then check_task rows
    else if bytes_eq command (codes "compare") then compare_task rows
    else if bytes_eq command (codes "policy") then policy_task rows
    else stack_task_of command rows

-- what a request has beside its task: the form of the answer, and then the candidates
abbrev pub form_and_candidates : Text → List Row → Result (OutputForm × List (Text × Text)) Refusal
form_and_candidates command rows =
    or_refuse (output_of command rows) format_name (λ output.
    candidates_of rows >>= λ candidates.
    Ok (output, candidates))

-- THE REQUEST of a command, or its first refusal. A command without SERVICE has the empty service
abbrev pub request_of : Text → List Row → Result RequestText Refusal
request_of command rows =
    task_of command rows >>= λ task.
    form_and_candidates command rows >>= λ others.
    Ok (record { service = text_of (codes "service") rows; task = task; candidates = others.1; output = others.0 })
