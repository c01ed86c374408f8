-- The command line: the values that the rows found by `clap` spell.
use Rattle.std.specs.Prelude.{Bool, ◌&&◌, ◌||◌, true, false, not, ℕ, ℤ, pos, nat_le, nat_lt, List, [], ◌++◌, codes, length, map}
use Rattle.std.specs.Prelude.{Option, Some, None, Result, is_some, option_map, unwrap_or, if◌then◌else◌}
use Rattle.std.specs.Char.{is_ascii_digit}
use Rattle.std.specs.List.{list_all}
use Rattle.std.specs.Option.{option_and_then, option_map_or}
use Rattle.std.specs.Str.{bytes_eq}
use Rattle.std.specs.Str.Parse.{digits_value, without_leading_plus}
use Rattle.pam_conf.specs.Rule.{kind_named}
use Rattle.pam_conf.specs.declared.Kind.{Kind}
use Rattle.clap.specs.ValueTests.{accepts}
use Rattle.clap.specs.Words.{Row, Text, all_of, first_of}
use Rattle.pam_words.specs.Asked.{AnswersText, LoginText, MomentText, PartText, Refusal, SourceText, after, any, before, civil, conf}
use Rattle.pam_words.specs.Asked.{dir, instant, over, possible, root, whole}
use Rattle.pam_words.specs.Candidates.{candidates_beside, files_among, given_by}
use Rattle.pam_words.specs.Decisions.{codes_named}
use Rattle.pam_words.specs.Words.{number_parser}
use Rattle.pam_words.specs.declared.wanted.GraphFormat.{GraphFormat}
use Rattle.pam_words.specs.declared.wanted.GraphFormat.TheVariants.{Dot, Mermaid, Svg}
use Rattle.pam_words.specs.declared.wanted.LevelName.{LevelName}
use Rattle.pam_words.specs.declared.wanted.LevelName.TheVariants.{Error, Warning, Note}
use Rattle.pam_words.specs.declared.wanted.OutputForm.{OutputForm}
use Rattle.pam_words.specs.declared.wanted.OutputForm.TheVariants.{Full, Json, Patch, PlainText, Sarif}
use Rattle.pam_words.specs.declared.wanted.PathFilter.{PathFilter}
use Rattle.pam_words.specs.declared.wanted.PathFilter.TheVariants.{All, Decides, Asks}
use Rattle.pam_words.specs.declared.wanted.ReleaseName.{ReleaseName}
use Rattle.pam_words.specs.declared.wanted.ReleaseName.TheVariants.{LinuxPam15, LinuxPam17}

-- the text of an id, empty if it has none
abbrev pub text_of : Text → List Row → Text
text_of id rows = unwrap_or (first_of id rows) []

-- all texts of an id, in order
abbrev pub texts_of : Text → List Row → List Text
texts_of id rows = unwrap_or (all_of id rows) []

-- whether an id has a value
abbrev pub has : Text → List Row → Bool
has id rows = is_some (first_of id rows)

-- the source: `--dir`, `--conf` or `--root`, exactly one, and `--vendor-dir` with `--dir` alone. The columns are the values of
-- `--dir`, `--vendor-dir`, `--conf` and `--root`
abbrev pub one_source : Option Text → Option Text → Option Text → Option Text → Option SourceText
one_source (Some folder) None None None = Some (dir folder)
one_source (Some folder) (Some vendor) None None = Some (over folder vendor)
one_source None None (Some file) None = Some (conf file)
one_source None None None (Some folder) = Some (root folder)
one_source _ _ _ _ = None

abbrev pub source_of : List Row → Option SourceText
source_of rows =
    one_source (first_of (codes "dir") rows) (first_of (codes "vendor-dir") rows) (first_of (codes "conf") rows) (first_of (codes "root") rows)

-- an option of a source is given
abbrev pub names_source : List Row → Bool
names_source rows = has (codes "dir") rows || has (codes "vendor-dir") rows || has (codes "conf") rows || has (codes "root") rows

-- the source of a command that asks the running system if no option names one
abbrev pub source_or_root : List Row → Option SourceText
source_or_root rows = if names_source rows then source_of rows else Some (root (codes "/"))

-- an option without a value is given
abbrev pub is_on : Text → List Row → Bool
is_on id rows = option_map_or (λ value. bytes_eq value (codes "true")) (first_of id rows) false

-- a side of `compare`: a folder, one file with `--conf`, or a root with `--root`. The columns are whether `--conf` is given, whether
-- `--root` is given, and the name
abbrev pub side_of : Bool → Bool → Text → Option SourceText
side_of false false name = Some (dir name)
side_of true false name = Some (conf name)
side_of false true name = Some (root name)
side_of true true name = None

abbrev pub side_in : Text → List Row → Option SourceText
side_in id rows = side_of (is_on (codes "conf") rows) (is_on (codes "root") rows) (text_of id rows)

-- the candidates for files of the source: those of the words of `check`, and then those of `--with`
abbrev pub candidates_given : List Row → List (Text × Text)
candidates_given rows = files_among (texts_of (codes "name") rows) ++ map given_by (texts_of (codes "with") rows)

abbrev pub candidates_of : List Row → Result (List (Text × Text)) Refusal
candidates_of rows = candidates_beside (has (codes "conf") rows) (candidates_given rows)

abbrev pub kind_of_rows : List Row → Option Kind
kind_of_rows rows = kind_named (text_of (codes "kind") rows)

-- the kind of a name, if there is one
abbrev pub kind_or_all : Option Text → Option (Option Kind)
kind_or_all None = Some None
kind_or_all (Some name) = option_map (λ kind. Some kind) (kind_named name)

abbrev pub kind_if_named : List Row → Option (Option Kind)
kind_if_named rows = kind_or_all (first_of (codes "kind") rows)

abbrev pub codes_of_rows : List Row → Option (List ℕ)
codes_of_rows rows = codes_named (texts_of (codes "code") rows)

-- the number written by 1 to 12 decimal digits
abbrev pub seconds_of : Text → Option ℤ
seconds_of text =
    if nat_lt 0 (length text) && nat_le (length text) 12 && list_all is_ascii_digit text
    then Some (pos (digits_value 10 text)) else None

abbrev pub instant_of : Text → Option Text → Option MomentText
instant_of digits zone = option_map (λ seconds. instant seconds (unwrap_or zone (codes "UTC0"))) (seconds_of digits)

-- `--at` alone, or `--at-unix` with or without `--zone`
abbrev pub one_moment : Option Text → Option Text → Option Text → Option MomentText
one_moment (Some text) None None = Some (civil text)
one_moment (Some text) None (Some rule) = None
one_moment None (Some digits) rule = instant_of digits rule
one_moment (Some text) (Some digits) rule = None
one_moment None None rule = None

abbrev pub moment_of : List Row → Option MomentText
moment_of rows =
    one_moment (first_of (codes "at") rows) (first_of (codes "at-unix") rows) (first_of (codes "zone") rows)

abbrev pub login_of : List Row → LoginText
login_of rows = record {
  user = text_of (codes "user") rows;
  rhost = text_of (codes "rhost") rows;
  tty = text_of (codes "tty") rows;
}

-- the limit if `--limit` is not given
abbrev pub default_limit : ℕ
default_limit = 1000

-- the number of a text that `clap` accepts as one
abbrev pub number_in : Text → Option ℕ
number_in text = if accepts false number_parser text then Some (digits_value 10 (without_leading_plus text)) else None

-- the limit. `clap` finds no text for `--limit` but one that it accepts
abbrev pub limit_of : List Row → ℕ
limit_of rows = unwrap_or (option_and_then number_in (first_of (codes "limit") rows)) default_limit

-- the module that paths are to ask
abbrev pub asks_of : List Row → Option ℕ
asks_of rows = option_and_then number_in (first_of (codes "asks") rows)

-- at most one of `--decision` and `--asks`
abbrev pub one_filter : Option (List ℕ) → Option ℕ → Option PathFilter
one_filter None None = Some All
one_filter (Some decisions) None = Some (Decides decisions)
one_filter None (Some module_number) = Some (Asks module_number)
one_filter (Some decisions) (Some module_number) = None

-- at most one of `--after` and `--before`
abbrev pub one_part : Option Text → Option Text → Option PartText
one_part None None = Some whole
one_part (Some cursor) None = Some (after cursor)
one_part None (Some cursor) = Some (before cursor)
one_part (Some cursor) (Some other) = None

abbrev pub part_of : List Row → Option PartText
part_of rows = one_part (first_of (codes "after") rows) (first_of (codes "before") rows)

abbrev pub format_named : Text → Option GraphFormat
format_named name =
    if bytes_eq name (codes "dot") then Some Dot
    else if bytes_eq name (codes "mermaid") then Some Mermaid
    else if bytes_eq name (codes "svg") then Some Svg
    else None

abbrev pub format_or_default : Option Text → Option GraphFormat
format_or_default None = Some Dot
format_or_default (Some name) = format_named name

-- the format of a drawing, which is DOT unless `--format` names another one
abbrev pub format_of : List Row → Option GraphFormat
format_of rows = format_or_default (first_of (codes "format") rows)

-- the answers of a name. Only those that are possible need facts
abbrev pub answers_named : Option Text → Text → Option AnswersText
answers_named facts name =
    if bytes_eq name (codes "any") then Some any
    else if bytes_eq name (codes "possible") then Some (possible facts)
    else None

-- the columns are the values of `--answers` and `--facts`
abbrev pub answers_in : Option Text → Option Text → Option AnswersText
answers_in None facts = Some (possible facts)
answers_in (Some name) facts = answers_named facts name

-- what modules may return: what is possible, unless `--answers` says any
abbrev pub answers_of : List Row → Option AnswersText
answers_of rows = answers_in (first_of (codes "answers") rows) (first_of (codes "facts") rows)

abbrev pub level_named : Text → Option LevelName
level_named name =
    if bytes_eq name (codes "error") then Some Error
    else if bytes_eq name (codes "warning") then Some Warning
    else if bytes_eq name (codes "note") then Some Note
    else None

abbrev pub level_or_default : Option Text → Option LevelName
level_or_default None = Some Warning
level_or_default (Some name) = level_named name

-- the least level that fails, which is a warning unless `--fail-on` names another one
abbrev pub level_of : List Row → Option LevelName
level_of rows = level_or_default (first_of (codes "fail-on") rows)

-- JSON if `--json` is given, else text
abbrev pub json_or_text : List Row → OutputForm
json_or_text rows = if is_on (codes "json") rows then Json else PlainText

abbrev pub form_named : Text → Option OutputForm
form_named name =
    if bytes_eq name (codes "short") then Some PlainText
    else if bytes_eq name (codes "full") then Some Full
    else if bytes_eq name (codes "json") then Some Json
    else if bytes_eq name (codes "sarif") then Some Sarif
    else if bytes_eq name (codes "patch") then Some Patch
    else None

-- the form of a check, which `--json` and `--format` ask for alike where both are given. The columns are the values of `--format` and,
-- as rows, of `--json`
abbrev pub form_beside : Option Text → List Row → Option OutputForm
form_beside None rows = Some (json_or_text rows)
form_beside (Some name) rows = if is_on (codes "json") rows && not (bytes_eq name (codes "json")) then None else form_named name

-- the form of the answer of a command. Only `check` has `--format` for it
abbrev pub output_of : Text → List Row → Option OutputForm
output_of command rows =
    if bytes_eq command (codes "check") then form_beside (first_of (codes "format") rows) rows else Some (json_or_text rows)

-- an access or time table is given, and no user
abbrev pub lacks_user : List Row → Bool
lacks_user rows = (has (codes "access") rows || has (codes "time") rows) && not (has (codes "user") rows)

-- a time table or an option of the moment is given
abbrev pub needs_moment : List Row → Bool
needs_moment rows = has (codes "time") rows || has (codes "at") rows || has (codes "at-unix") rows || has (codes "zone") rows

abbrev pub release_named : Text → Option ReleaseName
release_named name =
    if bytes_eq name (codes "linux-pam-1.5") then Some LinuxPam15
    else if bytes_eq name (codes "linux-pam-1.7") then Some LinuxPam17
    else None

-- a release that is named, which has no JSON
abbrev pub release_in : OutputForm → Option Text → Option (Option ReleaseName)
release_in output None = Some None
release_in PlainText (Some name) = option_map (λ release. Some release) (release_named name)
release_in form (Some name) = None

-- the release that `--as` names, if it is given
abbrev pub release_of : List Row → Option (Option ReleaseName)
release_of rows = release_in (json_or_text rows) (first_of (codes "as") rows)
