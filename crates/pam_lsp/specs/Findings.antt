-- What `check` finds, from the lines of its JSON.
use Rattle.std.specs.Prelude.{ℕ, ◌==◌, List, [], ◌∷◌, Option, Some, None, codes, if◌then◌else◌, option_and_then}
use Rattle.std.specs.List.{filter_map, flat_map, slice_split}
use Rattle.std.specs.Option.{option_map_or}
use Rattle.std.specs.Str.{bytes_eq}
use Rattle.clap.specs.Words.{Text}
use Rattle.serde_json.specs.Data.{Data}
use Rattle.serde_json.specs.Find.{as_number, as_str, as_u64, get}
use Rattle.serde_json.specs.Read.{read}
use Rattle.pam_lsp.specs.declared.finding.Finding.{Finding}
use Rattle.pam_lsp.specs.declared.finding.Severity.{Severity}
use Rattle.pam_lsp.specs.declared.finding.Severity.TheVariants.{Error, Warning, Note}
use Rattle.pam_lsp.specs.declared.position.Spot.{Spot}

-- a finding: the path of its file, its line and its word, if it has them, how grave it is, its number and what is wrong
pub record FindingText : Type 0 where
  pub file : Text
  pub line : Option ℕ
  pub spot : Option Spot
  pub severity : Severity
  pub number : Text
  pub sentence : Text

abbrev pub finding_view : Finding → FindingText
finding_view f = record {
  file = f.file.now;
  line = f.line;
  spot = f.spot;
  severity = f.severity;
  number = f.number.now;
  sentence = f.sentence.now;
}

abbrev pub text_in : Text → Data → Option Text
text_in name d = option_and_then as_str (get name d)

abbrev pub number_in : Text → Data → Option ℕ
number_in name d = option_and_then as_u64 (option_and_then as_number (get name d))

abbrev pub severity_named : Text → Option Severity
severity_named level =
    if bytes_eq level (codes "error") then Some Error
    else if bytes_eq level (codes "warning") then Some Warning
    else if bytes_eq level (codes "note") then Some Note
    else None

abbrev pub severity_in : Data → Option Severity
severity_in d = option_and_then severity_named (text_in (codes "level") d)

abbrev pub spot_of : Option ℕ → Option ℕ → Option Spot
spot_of (Some column) (Some length) = Some (record { column = column; length = length })
spot_of column length = None

abbrev pub spot_in : Data → Option Spot
spot_in d = spot_of (number_in (codes "column") d) (number_in (codes "length") d)

abbrev pub told : Option Text → Option Severity → Option Text → Option Text → Data → Option FindingText
told (Some file) (Some severity) (Some number) (Some sentence) d = Some (record {
  file = file;
  line = number_in (codes "line") d;
  spot = spot_in d;
  severity = severity;
  number = number;
  sentence = sentence;
})
told file severity number sentence d = None

-- THE FINDING that a line tells, if it tells one
abbrev pub finding_in : Data → Option FindingText
finding_in d = told (text_in (codes "file") d) (severity_in d) (text_in (codes "number") d) (text_in (codes "sentence") d) d

abbrev pub findings_in : List Data → List FindingText
findings_in values = filter_map finding_in values

-- the value that a line is, if it is one
abbrev pub values_in : Text → List Data
values_in line = option_map_or (λ value. value ∷ []) (read line) []

-- the values that the lines of an answer are
abbrev pub values_of : Text → List Data
values_of answer = flat_map values_in (slice_split (λ byte. byte == 10) answer)
