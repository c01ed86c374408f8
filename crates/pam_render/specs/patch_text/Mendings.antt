-- The mendings of a check: a word that is wrong is replaced by the nearest right word, if that is certain.
use Rattle.std.specs.Prelude.{ℕ, ◌-◌, ◌==◌, ◌&&◌, ◌||◌, nat_eq, nat_lt, not, Bool, false, List, [], ◌∷◌, bytes_eq, codes, drop, if◌then◌else◌, length}
use Rattle.std.specs.Prelude.{Option, None, Some}
use Rattle.std.specs.List.{enumerate_from, flat_map, list_all, list_any, starts_with}
use Rattle.std.specs.Option.{option_and_then, option_map_or}
use Rattle.pam_conf.specs.Files.{Folder}
use Rattle.pam_facts.specs.arguments.Modules.{name_part}
use Rattle.pam_facts.specs.known.Answers.{name_of_path}
use Rattle.pam_findings.specs.declared.host.problem.Place.{Place}
use Rattle.pam_findings.specs.declared.host.problem.Problem.{Problem}
use Rattle.pam_findings.specs.declared.host.problem.Problem.TheVariants.{Argument, NoModule, Walk}
use Rattle.pam_findings.specs.declared.host.report.Finding.{Finding}
use Rattle.pam_findings.specs.misspelled.Lines.{bytes_of}
use Rattle.pam_findings.specs.misspelled.Misspelled.{MisspelledText}
use Rattle.pam_findings.specs.misspelled.Spots.{from_line}
use Rattle.pam_findings.specs.declared.misspelled.spot.Spot.{Spot}
use Rattle.pam_render.specs.parts.Check.{word_at}
use Rattle.pam_render.specs.patch_text.Mended.{Mending}

-- THE PART of a word that is wrong: the bytes before it, and its own. Of an argument with a value it is the name, and of the path of a
-- module what comes after the last slash
abbrev pub wrong_part : Problem → List ℕ → ℕ × List ℕ
wrong_part (Argument argument wrong) word = (0, name_part word)
wrong_part (NoModule is_dashed) word = (length word - length (name_of_path word), name_of_path word)
wrong_part problem word = (0, word)

-- a byte of ASCII that can be seen, and is a part of a word wherever it stands: it begins no comment and no word in brackets, and
-- continues no line; it is none of `#`, `[`, a backslash and `]`
abbrev pub is_plain : ℕ → Bool
is_plain byte =
    nat_lt 32 byte && (nat_lt byte 127 && (not (byte == 35) && (not (byte == 91) && (not (byte == 92) && not (byte == 93)))))

abbrev pub has_sign : List ℕ → Bool
has_sign word = list_any (λ b. b == 61) word

-- a value is neither lost nor needed
abbrev pub are_alike : List ℕ → List ℕ → Bool
are_alike word other = if has_sign word then has_sign other else not (has_sign other)

-- a word that is right as it stands, but not in its place, is not mended by itself
abbrev pub is_right_text : List ℕ → List ℕ → Bool
is_right_text part nearest = list_all is_plain nearest && (are_alike part nearest && not (bytes_eq part nearest))

-- a target is left alone, and a control that would take in a file: what comes in then is not told by the line
abbrev pub takes_in : List ℕ → Bool
takes_in word = bytes_eq word (codes "include") || bytes_eq word (codes "substack")

abbrev pub is_mendable : Problem → List ℕ → Bool
is_mendable (Walk fault) nearest = false
is_mendable problem nearest = not (takes_in nearest)

-- the bytes of the file from the word on. What stands before it at its spot stays: the dash of a kind
abbrev pub word_there : List ℕ → Spot → List ℕ → List ℕ
word_there line spot word = drop (spot.len - length word) (drop (spot.column - 1) line)

-- the mending of a part of the word at the front of these bytes of a file
abbrev pub mending_there : ℕ → ℕ → ℕ → ℕ × List ℕ → List ℕ → List ℕ → Mending
mending_there file line at part nearest there = record {
  file = file;
  line = line;
  at = at;
  from = length (drop part.0 there);
  after = length (drop (length part.1) (drop part.0 there));
  text = nearest;
}

-- where the word stands there as it is told
abbrev pub mending_if : ℕ → ℕ → Problem → ℕ → List ℕ → List ℕ → List ℕ → Option Mending
mending_if file line problem at word nearest there =
    if starts_with nat_eq there word && (is_mendable problem nearest && is_right_text (wrong_part problem word).1 nearest)
    then Some (mending_there file line at (wrong_part problem word) nearest there) else None

abbrev pub mending_by : Folder → Place × Finding → List ℕ → List ℕ → ℕ → Spot → Option Mending
mending_by files entry word nearest file spot =
    mending_if file entry.0.line entry.1.problem spot.line word nearest (word_there (from_line spot.line (bytes_of files (Some file))) spot word)

-- no other right word is as near
abbrev pub certain_word : MisspelledText → Option (List ℕ)
certain_word m = if m.is_certain then m.nearest else None

abbrev pub mending_of_word : Folder → Place × Finding → MisspelledText → Option Mending
mending_of_word files entry m =
    option_and_then (λ nearest. option_and_then (λ file. option_and_then (mending_by files entry m.word nearest file) m.spot) entry.0.file) (certain_word m)

-- THE MENDING of a finding with the word that it is about
unfoldable pub mending_of : Folder → Place × Finding → Option MisspelledText → Option Mending
mending_of files entry word = option_and_then (mending_of_word files entry) word

abbrev pub if_any : Option Mending → List Mending
if_any mending = option_map_or (λ m. m ∷ []) mending []

abbrev pub numbered_mending : Folder → List (Option MisspelledText) → ℕ × (Place × Finding) → List Mending
numbered_mending files words entry = if_any (mending_of files entry.1 (word_at words entry.0))

-- THE MENDINGS of findings, in order
abbrev pub mendings_of : Folder → List (Option MisspelledText) → List (Place × Finding) → List Mending
mendings_of files words found = flat_map (numbered_mending files words) (enumerate_from 0 found)
