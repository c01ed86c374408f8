-- The rules of a SARIF document: what each number means that a result has.
use Rattle.std.specs.Prelude.{ℕ, ◌&&◌, ◌||◌, nat_lt, Bool, List, [], ◌∷◌, bytes_eq, codes, length, map}
use Rattle.std.specs.List.{filter, list_any}
use Rattle.pam_explain.specs.Explanation.{Explanation}
use Rattle.pam_explain.specs.Explanations.{explanations}
use Rattle.pam_render.specs.json_lines.Line.{items_of, joined, members_of}
use Rattle.pam_findings.specs.host.Rows.{row_of}
use Rattle.pam_findings.specs.tables.Rows.{row_of as row_of_table}
use Rattle.pam_report.specs.Reply.{CheckValue}
use Rattle.pam_report.specs.Unused.{unused_row}
use Rattle.serde_json.specs.Data.{Data, array, object, string}

-- a text as SARIF has it
abbrev pub text_object : Data → Data
text_object text = object (members_of ((codes "text", text) ∷ []))

-- a finding, a problem of a table, or such a line has the number
abbrev pub is_found : CheckValue → List ℕ → Bool
is_found value number =
    list_any (λ entry. bytes_eq (row_of entry.1.problem).number number) value.found
    || list_any (λ finding. bytes_eq (row_of_table finding.problem).number number) value.tables
    || nat_lt 0 (length value.unused) && bytes_eq unused_row.number number

abbrev pub is_rule : CheckValue → Explanation → Bool
is_rule value e = is_found value e.number

-- THE RULE of a number
unfoldable pub rule_object : Explanation → Data
rule_object e =
    object (members_of ((codes "id", string e.number) ∷ (codes "name", string e.name)
    ∷ (codes "shortDescription", text_object (joined (e.meaning ∷ [])))
    ∷ (codes "fullDescription", text_object (joined (e.meaning ∷ codes "\nLinux-PAM: " ∷ e.linux_pam ∷ [])))
    ∷ (codes "help", text_object (joined (codes "To mend it: " ∷ e.mending ∷ []))) ∷ []))

-- THE RULES, in the order of `explain`: those of the numbers that results have
abbrev pub rules_of : CheckValue → List Data
rules_of value = map rule_object (filter (is_rule value) explanations)

abbrev pub rules_array : CheckValue → Data
rules_array value = array (items_of (rules_of value))
