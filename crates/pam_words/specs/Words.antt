-- The command line: the words that each command accepts.
use Rattle.std.specs.Prelude.{ℕ, List, [], ◌∷◌, Some, codes, true}
use Rattle.clap.specs.Words.{App, Rule, Text, new_app, new_rule, with_rule, with_subcommand}
use Rattle.clap.specs.declared.builder.ArgAction.TheVariants.{Append, SetTrue}
use Rattle.clap.specs.declared.builder.value_parser.ValueParser.{ValueParser}
use Rattle.clap.specs.declared.builder.value_parser.ValueParser.TheVariants.{Unsigned}

-- a required word
abbrev pub required_rule : Text → Rule
required_rule id = record (new_rule id) { value_names = 1; required = true }

-- one word or more
abbrev pub required_words_rule : Text → Rule
required_words_rule id = record (required_rule id) { action = Some Append }

-- `--ID VALUE`
abbrev pub option_rule : Text → Rule
option_rule id = record (new_rule id) { long = Some id; value_names = 1 }

-- `--ID VALUE`, required
abbrev pub required_option_rule : Text → Rule
required_option_rule id = record (option_rule id) { required = true }

-- `--ID VALUE`, once or more
abbrev pub required_options_rule : Text → Rule
required_options_rule id = record (required_option_rule id) { action = Some Append }

-- a word that may be left out
abbrev pub optional_rule : Text → Rule
optional_rule id = record (new_rule id) { value_names = 1 }

-- any number of words
abbrev pub repeated_rule : Text → Rule
repeated_rule id = record (optional_rule id) { action = Some Append }

-- `--ID VALUE`, any number of times
abbrev pub repeated_option_rule : Text → Rule
repeated_option_rule id = record (option_rule id) { action = Some Append }

-- `--ID`, without a value
abbrev pub flag_rule : Text → Rule
flag_rule id = record (option_rule id) { action = Some SetTrue }

-- the range of `--limit` and `--asks`
abbrev pub least_number : ℕ
least_number = 1

abbrev pub most_number : ℕ
most_number = 1000000

abbrev pub number_parser : ValueParser
number_parser = Unsigned least_number most_number

-- `--ID N`
abbrev pub number_rule : Text → Rule
number_rule id = record (option_rule id) { parser = Some number_parser }

-- with `--ID VALUE` for each of these
abbrev pub with_options : App → List Text → App
with_options app [] = app
with_options app (id ∷ ids) = with_options (with_rule app (option_rule id)) ids

-- the option that asks for JSON
abbrev pub with_json : App → App
with_json app = with_rule app (flag_rule (codes "json"))

-- the option that says which codes a module may return
abbrev pub with_settings : App → App
with_settings app = with_rule app (repeated_option_rule (codes "set"))

-- the option that names access tables
abbrev pub with_access : App → App
with_access app = with_rule app (repeated_option_rule (codes "access"))

-- `NAME SERVICE`
abbrev pub service_app : Text → App
service_app name = with_rule (new_app name) (required_rule (codes "service"))

-- the options of a source, and the candidates for its files
abbrev pub with_source : App → App
with_source app =
    with_rule (with_options app (codes "dir" ∷ codes "vendor-dir" ∷ codes "conf" ∷ codes "root" ∷ [])) (repeated_option_rule (codes "with"))

-- the options of a check: the folders of modules, access tables, a time table and a group file, a facts file, an accept file, the level
-- that fails and the form of the answer
abbrev pub with_check : App → App
with_check app =
    with_options (with_access (with_rule app (repeated_option_rule (codes "modules"))))
    (codes "time" ∷ codes "group" ∷ codes "facts" ∷ codes "accept" ∷ codes "fail-on" ∷ codes "format" ∷ [])

-- `check [SERVICE]...`
unfoldable pub check_app : App
check_app = with_rule (with_json (with_check (with_source (new_app (codes "check"))))) (repeated_rule (codes "name"))

-- `compare OLD NEW [SERVICE [KIND]]`
abbrev pub sides_app : App
sides_app =
    with_rule (with_rule (with_rule (with_rule (new_app (codes "compare"))
    (required_rule (codes "old"))) (required_rule (codes "new"))) (optional_rule (codes "service"))) (optional_rule (codes "kind"))

-- the same, with the form of OLD and NEW, `--json`, the folders of modules, a facts file, a returns file and the codes of modules
unfoldable pub compare_app : App
compare_app =
    with_settings (with_options (with_rule (with_json (with_rule (with_rule sides_app (flag_rule (codes "conf"))) (flag_rule (codes "root"))))
    (repeated_option_rule (codes "modules"))) (codes "facts" ∷ codes "returns" ∷ []))

-- `explain [NUMBER]`
unfoldable pub explain_app : App
explain_app = with_rule (new_app (codes "explain")) (optional_rule (codes "number"))

-- `facts`
unfoldable pub facts_app : App
facts_app = new_app (codes "facts")

-- `version`
unfoldable pub version_app : App
version_app = new_app (codes "version")

-- `NAME SERVICE KIND`, with a source
abbrev pub stack_app : Text → App
stack_app name = with_source (with_rule (service_app name) (required_rule (codes "kind")))

-- `NAME SERVICE [KIND]`, with a source
abbrev pub stacks_app : Text → App
stacks_app name = with_source (with_rule (service_app name) (optional_rule (codes "kind")))

-- `show SERVICE [KIND]`
unfoldable pub show_app : App
show_app = with_json (with_options (stacks_app (codes "show")) (codes "as" ∷ []))

-- `decide SERVICE KIND [CODE]...`
unfoldable pub decide_app : App
decide_app = with_rule (with_json (stack_app (codes "decide"))) (repeated_rule (codes "code"))

-- the options that choose a page of a listing
abbrev pub with_page : App → App
with_page app = with_options (with_rule app (number_rule (codes "limit"))) (codes "after" ∷ codes "before" ∷ [])

-- the options that choose paths of a listing
abbrev pub with_filter : App → App
with_filter app = with_rule (with_rule app (option_rule (codes "decision"))) (number_rule (codes "asks"))

-- the options of a login: the user, the remote host and the terminal
abbrev pub with_login : App → App
with_login app = with_options app (codes "user" ∷ codes "rhost" ∷ codes "tty" ∷ [])

abbrev pub with_tables : App → App
with_tables app = with_options (with_access app) (codes "time" ∷ codes "group" ∷ codes "passwd" ∷ codes "returns" ∷ [])

abbrev pub with_moment : App → App
with_moment app = with_options app (codes "at" ∷ codes "at-unix" ∷ codes "zone" ∷ [])

-- the options that say which codes modules may return
abbrev pub with_knowledge : App → App
with_knowledge app = with_moment (with_settings (with_tables (with_login (with_rule app (repeated_option_rule (codes "modules"))))))

-- `paths SERVICE KIND`
unfoldable pub paths_app : App
paths_app = with_knowledge (with_filter (with_page (with_json (stack_app (codes "paths")))))

-- the options that say what modules may return of which nothing else tells
abbrev pub with_answers : App → App
with_answers app = with_options app (codes "answers" ∷ codes "facts" ∷ [])

-- `outcomes SERVICE KIND`
unfoldable pub outcomes_app : App
outcomes_app = with_knowledge (with_answers (with_json (stack_app (codes "outcomes"))))

-- `graph SERVICE KIND`
unfoldable pub graph_app : App
graph_app = with_knowledge (with_answers (with_options (stack_app (codes "graph")) (codes "format" ∷ [])))

-- `policy POLICY...`
unfoldable pub policy_app : App
policy_app =
    with_knowledge (with_options (with_json (with_source (with_rule (new_app (codes "policy")) (required_words_rule (codes "policy")))))
    (codes "fail-on" ∷ codes "facts" ∷ []))

-- `needs SERVICE KIND`
unfoldable pub needs_app : App
needs_app = with_knowledge (with_options (with_json (stack_app (codes "needs"))) (codes "facts" ∷ []))

-- `NAME SERVICE`, with the option that names what a login is looked up in, a user and a terminal
abbrev pub login_app : Text → Rule → App
login_app name looked_up =
    with_rule (with_rule (with_rule (service_app name)
    looked_up) (required_option_rule (codes "user")))
    (option_rule (codes "tty"))

-- `access SERVICE [ARGUMENT]...`
unfoldable pub access_app : App
access_app =
    with_rule (with_json (with_options (login_app (codes "access") (required_options_rule (codes "access")))
    (codes "group" ∷ codes "passwd" ∷ codes "rhost" ∷ []))) (repeated_rule (codes "argument"))

-- `time SERVICE`
unfoldable pub time_app : App
time_app = with_json (with_moment (login_app (codes "time") (required_option_rule (codes "time"))))

-- the version of the program, and the toolchain that proved it
abbrev pub version : Text
version = codes "1.0.0 (proved with rattle, logic dac8208d650f15bf)"

-- the program, which has a version and requires a command
unfoldable pub bare_app : App
bare_app = let app = new_app (codes "pamcheck") in record app { top = record app.top { has_version = true; subcommand_required = true } }

-- the commands about whole configurations
abbrev pub with_hosts : App → App
with_hosts app = with_subcommand (with_subcommand (with_subcommand app check_app.top) compare_app.top) policy_app.top

-- the commands about a stack as it is
abbrev pub with_stacks : App → App
with_stacks app = with_subcommand (with_subcommand app show_app.top) decide_app.top

-- the commands that list paths
abbrev pub with_listings : App → App
with_listings app = with_subcommand app paths_app.top

-- the commands about all runs of a stack
abbrev pub with_graphs : App → App
with_graphs app = with_subcommand (with_subcommand (with_subcommand app outcomes_app.top) graph_app.top) needs_app.top

-- the commands that look a login up
abbrev pub with_lookups : App → App
with_lookups app = with_subcommand (with_subcommand app access_app.top) time_app.top

-- the commands about the program itself
abbrev pub with_pages : App → App
with_pages app = with_subcommand (with_subcommand (with_subcommand app explain_app.top) facts_app.top) version_app.top

unfoldable pub pamcheck_app : App
pamcheck_app = with_pages (with_lookups (with_graphs (with_listings (with_stacks (with_hosts bare_app)))))
