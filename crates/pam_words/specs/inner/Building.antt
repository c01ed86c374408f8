-- For private contracts and proofs alone: a command that is being built.
use Rattle.std.specs.Prelude.{◌≡◌, Bool, List, [], ◌∷◌, IfOk, Option, Some, None, Result, bytes_eq, codes, false, find, option_map}
use Rattle.std.specs.Borrow.{Bor}
use Rattle.std.specs.Option.{option_map_or}
use Rattle.std.specs.declared.alloc.AllocError.{AllocError}
use Rattle.clap.specs.Words.{App, Rule, Shape, Text, app_of, new_app, with_rule, with_subcommand}
use Rattle.clap.specs.declared.builder.Command.{Command}
use Rattle.clap.specs.declared.builder.Command.TheViews.{out-Command as fields_of}
use Rattle.pam_words.specs.Words.{bare_app, flag_rule, number_rule, option_rule, optional_rule, repeated_option_rule, repeated_rule}
use Rattle.pam_words.specs.Words.{pamcheck_app, required_option_rule, required_options_rule, required_rule, required_words_rule}
use Rattle.pam_words.specs.declared.arguments.ArgForm.{ArgForm}
use Rattle.pam_words.specs.declared.arguments.ArgForm.TheVariants.{Positional, OptionalPositional, Repeated, Optional, RepeatedOption, Required}
use Rattle.pam_words.specs.declared.arguments.ArgForm.TheVariants.{RequiredRepeated, RequiredWords, Number, Flag}
use Rattle.pam_words.specs.declared.arguments.ArgRow.{ArgRow}
use Rattle.pam_words.specs.declared.arguments.Argument.{Argument}
use Rattle.pam_words.specs.declared.arguments.Argument.TheVariants as argument
use Rattle.pam_words.specs.declared.arguments.Word.{Word}
use Rattle.pam_words.specs.declared.arguments.Word.TheVariants as word
use Rattle.pam_words.specs.declared.commands.CommandRow.{CommandRow}

-- a command that accepts these words, unless an allocation failed. None of its options is passed on to its commands
abbrev pub IsBuilt : Result Command AllocError → App → Type 0
IsBuilt built app = IfOk built (λ c. (app_of c ≡ app) × ((fields_of c).has_globals ≡ false))

abbrev pub rule_in_form : ArgForm → Text → Rule
rule_in_form Positional id = required_rule id
rule_in_form OptionalPositional id = optional_rule id
rule_in_form Repeated id = repeated_rule id
rule_in_form RequiredWords id = required_words_rule id
rule_in_form Optional id = option_rule id
rule_in_form RepeatedOption id = repeated_option_rule id
rule_in_form Required id = required_option_rule id
rule_in_form RequiredRepeated id = required_options_rule id
rule_in_form Number id = number_rule id
rule_in_form Flag id = flag_rule id

abbrev pub rule_of_row : ArgRow → Rule
rule_of_row row = rule_in_form row.form row.id.now

-- the rule of a word
abbrev pub rule_of_word : Word → Rule
rule_of_word word.Service = required_rule (codes "service")
rule_of_word word.Kind = required_rule (codes "kind")
rule_of_word word.Old = required_rule (codes "old")
rule_of_word word.New = required_rule (codes "new")
rule_of_word word.ServiceIfNamed = optional_rule (codes "service")
rule_of_word word.KindIfNamed = optional_rule (codes "kind")
rule_of_word word.Services = repeated_rule (codes "name")
rule_of_word word.Policies = required_words_rule (codes "policy")
rule_of_word word.Codes = repeated_rule (codes "code")
rule_of_word word.Arguments = repeated_rule (codes "argument")
rule_of_word word.Number = optional_rule (codes "number")

-- the rule of an argument
abbrev pub rule_of_argument : Argument → Rule
rule_of_argument (argument.Word w) = rule_of_word w
rule_of_argument argument.AreFiles = flag_rule (codes "conf")
rule_of_argument argument.AreRoots = flag_rule (codes "root")
rule_of_argument argument.Dir = option_rule (codes "dir")
rule_of_argument argument.VendorDir = option_rule (codes "vendor-dir")
rule_of_argument argument.Conf = option_rule (codes "conf")
rule_of_argument argument.Root = option_rule (codes "root")
rule_of_argument argument.With = repeated_option_rule (codes "with")
rule_of_argument argument.Release = option_rule (codes "as")
rule_of_argument argument.Modules = repeated_option_rule (codes "modules")
rule_of_argument argument.HostAccess = repeated_option_rule (codes "access")
rule_of_argument argument.HostTime = option_rule (codes "time")
rule_of_argument argument.Facts = option_rule (codes "facts")
rule_of_argument argument.Accept = option_rule (codes "accept")
rule_of_argument argument.FailOn = option_rule (codes "fail-on")
rule_of_argument argument.Limit = number_rule (codes "limit")
rule_of_argument argument.After = option_rule (codes "after")
rule_of_argument argument.Before = option_rule (codes "before")
rule_of_argument argument.Decision = option_rule (codes "decision")
rule_of_argument argument.Asks = number_rule (codes "asks")
rule_of_argument argument.Format = option_rule (codes "format")
rule_of_argument argument.OutputFormat = option_rule (codes "format")
rule_of_argument argument.Answers = option_rule (codes "answers")
rule_of_argument argument.User = option_rule (codes "user")
rule_of_argument argument.Rhost = option_rule (codes "rhost")
rule_of_argument argument.Tty = option_rule (codes "tty")
rule_of_argument argument.Access = repeated_option_rule (codes "access")
rule_of_argument argument.Time = option_rule (codes "time")
rule_of_argument argument.Group = option_rule (codes "group")
rule_of_argument argument.Passwd = option_rule (codes "passwd")
rule_of_argument argument.Returns = option_rule (codes "returns")
rule_of_argument argument.Set = repeated_option_rule (codes "set")
rule_of_argument argument.SetByName = repeated_option_rule (codes "set")
rule_of_argument argument.At = option_rule (codes "at")
rule_of_argument argument.AtUnix = option_rule (codes "at-unix")
rule_of_argument argument.Zone = option_rule (codes "zone")
rule_of_argument argument.AccessTables = required_options_rule (codes "access")
rule_of_argument argument.TimeTable = required_option_rule (codes "time")
rule_of_argument argument.TableUser = required_option_rule (codes "user")
rule_of_argument argument.Json = flag_rule (codes "json")

-- with these arguments
abbrev pub with_args : App → List Argument → App
with_args app [] = app
with_args app (arg ∷ args) = with_args (with_rule app (rule_of_argument arg)) args

abbrev pub app_of_row : CommandRow → App
app_of_row row = with_args (new_app row.name.now) row.args.now

-- with the commands of these rows
abbrev pub with_commands : App → List CommandRow → App
with_commands app [] = app
with_commands app (row ∷ rows) = with_commands (with_subcommand app (app_of_row row).top) rows

-- the row of a table that has this name
unfoldable pub IsRowOf : Text → List CommandRow → Option (Bor CommandRow) → Type 0
IsRowOf name rows found = option_map (λ row. row.now) found ≡ find (λ row. bytes_eq row.name.now name) rows

abbrev pub shape_of_row : CommandRow → Shape
shape_of_row row = (app_of_row row).top

-- a command of this name
abbrev pub is_named : Text → Shape → Bool
is_named name s = bytes_eq s.name name

-- the command line with this command and no other
abbrev pub app_of_one : Shape → App
app_of_one s = with_subcommand bare_app s

-- the command line for words that begin with this name: with that command and no other, or with all where none has the name
abbrev pub app_for : Option Text → App
app_for None = pamcheck_app
app_for (Some name) = option_map_or app_of_one (find (is_named name) pamcheck_app.subs) pamcheck_app
