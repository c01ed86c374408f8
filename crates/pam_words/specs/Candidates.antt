-- The candidates: `--with NAME=FILE`, and each SERVICE of `check` that is a file.
use Rattle.std.specs.Prelude.{◌==◌, ◌&&◌, Bool, false, true, not, List, [], ◌∷◌, filter, map, Option, Result, Ok, Err, if◌then◌else◌, unwrap_or}
use Rattle.std.specs.List.{list_all, list_any}
use Rattle.clap.specs.Lexer.{name_and_value}
use Rattle.clap.specs.Words.{Text}
use Rattle.pam_facts.specs.known.Answers.{name_of_path}
use Rattle.pam_words.specs.Asked.{Refusal, candidate_form}

abbrev pub is_empty : {A : Type 0} → List A → Bool
is_empty [] = true
is_empty (x ∷ xs) = false

abbrev pub has_slash : Text → Bool
has_slash text = list_any (λ byte. byte == 47) text

-- a SERVICE with a slash is a file, in place of the file of its name: what is after its last slash
abbrev pub as_file : Text → Text × Text
as_file word = (name_of_path word, word)

abbrev pub files_among : List Text → List (Text × Text)
files_among words = map as_file (filter has_slash words)

-- the services of these words: a file is that of its name
abbrev pub services_among : List Text → List Text
services_among words = map name_of_path words

-- the name before the first `=`, and the file after it, which is empty if there is no `=`
abbrev pub name_and_file : Text × Option Text → Text × Text
name_and_file parts = (parts.0, unwrap_or parts.1 [])

abbrev pub given_by : Text → Text × Text
given_by text = name_and_file (name_and_value text)

-- a name without a slash, and a file, neither of which is empty; but none beside `--conf`
abbrev pub is_candidate : Bool → Text × Text → Bool
is_candidate has_conf given = not has_conf && (not (is_empty given.0) && not (is_empty given.1) && not (has_slash given.0))

abbrev pub are_candidates : Bool → List (Text × Text) → Bool
are_candidates has_conf given = list_all (is_candidate has_conf) given

-- THE CANDIDATES that are given, each of which must be one
abbrev pub candidates_beside : Bool → List (Text × Text) → Result (List (Text × Text)) Refusal
candidates_beside has_conf given = if are_candidates has_conf given then Ok given else Err candidate_form
