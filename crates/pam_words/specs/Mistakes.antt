-- The command line: what is wrong with words that are refused, where a command says it.
use Rattle.std.specs.Prelude.{◌&&◌, ◌||◌, Bool, false, not, nat_eq, List, codes, drop, find, is_none, is_some}
use Rattle.std.specs.Prelude.{option_map, Option, Some, None, if◌then◌else◌}
use Rattle.std.specs.List.{starts_with}
use Rattle.std.specs.Option.{option_and_then, option_or}
use Rattle.std.specs.Str.{bytes_eq}
use Rattle.clap.specs.Lexer.{name_and_value}
use Rattle.clap.specs.Words.{Row, Text, subcommand_of}
use Rattle.pam_facts.specs.known.Answers.{name_of_path}
use Rattle.pam_words.specs.Candidates.{given_by, has_slash, is_candidate, is_empty}
use Rattle.pam_words.specs.Decisions.{code_named, comma_parts}
use Rattle.pam_words.specs.Settings.{key_in}
use Rattle.pam_words.specs.Values.{has, is_on, text_of, texts_of}
use Rattle.pam_words.specs.Words.{pamcheck_app}
use Rattle.pam_words.specs.declared.mistake.Mistake.{Mistake}
use Rattle.pam_words.specs.declared.mistake.Mistake.TheVariants as mistakes
use Rattle.pam_words.specs.declared.wanted.Usage.{Usage}
use Rattle.pam_words.specs.declared.wanted.Usage.TheVariants as usage

-- the word that is wrong, or what of the words cannot be
pub data MistakeText : Type 0 where
  many_sources : MistakeText
  vendor_alone : MistakeText
  both_forms : MistakeText
  kind : Text → MistakeText
  code : Text → MistakeText
  drawing : Text → MistakeText
  form : Text → MistakeText
  beside_json : MistakeText
  level : Text → MistakeText
  answers : Text → MistakeText
  setting : Text → MistakeText
  candidate : Text → MistakeText
  folder : Text → MistakeText
  beside_conf : MistakeText
  no_user : MistakeText
  no_moment : MistakeText

abbrev pub mistake_view : Mistake → MistakeText
mistake_view mistakes.ManySources = many_sources
mistake_view mistakes.VendorAlone = vendor_alone
mistake_view mistakes.BothForms = both_forms
mistake_view (mistakes.Kind word) = kind word.now
mistake_view (mistakes.Code word) = code word.now
mistake_view (mistakes.Drawing word) = drawing word.now
mistake_view (mistakes.Form word) = form word.now
mistake_view mistakes.BesideJson = beside_json
mistake_view (mistakes.Level word) = level word.now
mistake_view (mistakes.Answers word) = answers word.now
mistake_view (mistakes.Setting word) = setting word.now
mistake_view (mistakes.Candidate word) = candidate word.now
mistake_view (mistakes.Folder word) = folder word.now
mistake_view mistakes.BesideConf = beside_conf
mistake_view mistakes.NoUser = no_user
mistake_view mistakes.NoMoment = no_moment

-- the commands that say what is wrong. The lines of the others are a number and a name
abbrev pub tells : Text → Bool
tells command =
    bytes_eq command (codes "check") || bytes_eq command (codes "compare") || bytes_eq command (codes "policy")
    || bytes_eq command (codes "outcomes") || bytes_eq command (codes "graph") || bytes_eq command (codes "needs")

-- the options of `compare` are no names; the others name a source each, and `--vendor-dir` one beside `--dir`. Where no option names a
-- source there is no mistake, since these commands then ask the running system
abbrev pub source_mistake : Text → List Row → MistakeText
source_mistake command rows =
    if bytes_eq command (codes "compare") then both_forms
    else if has (codes "vendor-dir") rows && not (has (codes "dir") rows) then vendor_alone
    else many_sources

-- the names in CODES: those after `but:`, if it begins so
abbrev pub names_in : Text → List Text
names_in text = comma_parts (if starts_with nat_eq text (codes "but:") then drop 4 text else text)

-- the first of them that is none of a code
abbrev pub wrong_code : Text → Option Text
wrong_code text = if bytes_eq text (codes "any") then None else find (λ name. is_none (code_named name)) (names_in text)

abbrev pub wrong_in_setting : Text → Option Text
wrong_in_setting text = option_and_then (λ p. wrong_code p.1) (key_in (name_and_value text))

-- the first name in values of `--set` that is none of a code
abbrev pub code_mistake : List Text → Option Text
code_mistake texts = option_and_then wrong_in_setting (find (λ text. is_some (wrong_in_setting text)) texts)

-- the first value of `--set` that is not KEY=CODES
abbrev pub setting_mistake : List Text → Option Text
setting_mistake texts = find (λ text. is_none (key_in (name_and_value text))) texts

-- a SERVICE that ends in a slash
abbrev pub is_folder : Text → Bool
is_folder word = has_slash word && is_empty (name_of_path word)

-- a value of `--with` that gives no candidate
abbrev pub gives_none : Text → Bool
gives_none text = not (is_candidate false (given_by text))

-- of words of `check` and of values of `--with`: the first word that is a folder, or else the first value that gives no candidate
abbrev pub wrong_candidate : List Text → List Text → Option MistakeText
wrong_candidate words given = option_or (option_map folder (find is_folder words)) (option_map candidate (find gives_none given))

abbrev pub candidate_mistake : List Row → Option MistakeText
candidate_mistake rows =
    if has (codes "conf") rows then Some beside_conf else wrong_candidate (texts_of (codes "name") rows) (texts_of (codes "with") rows)

-- the value of `--format` of `check`, which `--json` takes the place of where both are given
abbrev pub form_mistake : List Row → MistakeText
form_mistake rows = if is_on (codes "json") rows then beside_json else form (text_of (codes "format") rows)

-- the value of `--format`
abbrev pub format_mistake : Text → List Row → Option MistakeText
format_mistake command rows =
    if bytes_eq command (codes "graph") then Some (drawing (text_of (codes "format") rows))
    else if bytes_eq command (codes "check") then Some (form_mistake rows)
    else None

-- what is wrong with the values of `--set`
abbrev pub mistake_of_settings : List Row → Usage → Option MistakeText
mistake_of_settings rows usage.CodeName = option_map code (code_mistake (texts_of (codes "set") rows))
mistake_of_settings rows usage.SettingForm = option_map setting (setting_mistake (texts_of (codes "set") rows))
mistake_of_settings rows refusal = None

-- what is wrong with the values of a command that is refused so
abbrev pub mistake_for : Text → List Row → Usage → Option MistakeText
mistake_for command rows usage.Source = Some (source_mistake command rows)
mistake_for command rows usage.KindName = Some (kind (text_of (codes "kind") rows))
mistake_for command rows usage.FormatName = format_mistake command rows
mistake_for command rows usage.LevelName = Some (level (text_of (codes "fail-on") rows))
mistake_for command rows usage.AnswersName = Some (answers (text_of (codes "answers") rows))
mistake_for command rows usage.Login = Some no_user
mistake_for command rows usage.Moment = Some no_moment
mistake_for command rows usage.CandidateForm = candidate_mistake rows
mistake_for command rows refusal = mistake_of_settings rows refusal

abbrev pub mistake_in : Usage → Text → List Row → Option MistakeText
mistake_in refusal command rows = if tells command then mistake_for command rows refusal else None

-- WHAT IS WRONG with words that are refused so
abbrev pub mistake_of : Usage → List Text → Option MistakeText
mistake_of refusal words = option_and_then (λ p. mistake_in refusal p.0 p.1) (subcommand_of pamcheck_app words)
