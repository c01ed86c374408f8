-- THE SARIF of `check`: one JSON document in SARIF 2.1.0, with one run, that of this program.
use Rattle.std.specs.Prelude.{◌≡◌, ℕ, List, [], ◌∷◌, codes, Result, Ok}
use Rattle.pam_paths.specs.declared.cursor.CursorError.{CursorError}
use Rattle.pam_render.specs.json_lines.Line.{items_of, line, members_of}
use Rattle.pam_render.specs.parts.Check.{Names, names_of_value}
use Rattle.pam_render.specs.sarif.Results.{results_array}
use Rattle.pam_render.specs.sarif.Rules.{rules_array}
use Rattle.pam_report.specs.Reply.{Check, CheckValue, Reply}
use Rattle.pam_words.specs.Words.{version}
use Rattle.serde_json.specs.Data.{Data, array, object, string}

-- this program, with the rules of what it finds
abbrev pub driver_object : CheckValue → Data
driver_object value =
    object (members_of ((codes "name", string (codes "pamcheck")) ∷ (codes "version", string version) ∷ (codes "rules", rules_array value) ∷ []))

abbrev pub tool_object : CheckValue → Data
tool_object value = object (members_of ((codes "driver", driver_object value) ∷ []))

abbrev pub run_object : Names → CheckValue → Data
run_object names value = object (members_of ((codes "tool", tool_object value) ∷ (codes "results", results_array names value) ∷ []))

abbrev pub runs_array : Names → CheckValue → Data
runs_array names value = array (items_of (run_object names value ∷ []))

abbrev pub document_members : Names → CheckValue → List (List ℕ × Data)
document_members names value =
    (codes "$schema", string (codes "https://json.schemastore.org/sarif-2.1.0.json")) ∷ (codes "version", string (codes "2.1.0"))
    ∷ (codes "runs", runs_array names value) ∷ []

abbrev pub named_sarif : Names → CheckValue → List ℕ
named_sarif names value = line (document_members names value)

-- THE SARIF of `check`
abbrev pub check_sarif : CheckValue → List ℕ
check_sarif value = named_sarif (names_of_value value) value

-- THE SARIF of a reply, which those of other commands have not
abbrev pub IsSarif : Reply → Result (List ℕ) CursorError → Type 0
IsSarif (Check found) text = text ≡ Ok (check_sarif found)
IsSarif reply text = ⊥
