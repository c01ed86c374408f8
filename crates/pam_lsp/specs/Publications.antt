-- What is published of a file: its diagnostics.
use Rattle.std.specs.Prelude.{ℕ, List, [], ◌∷◌, Option, Some, None, codes, map}
use Rattle.std.specs.Option.{option_map}
use Rattle.clap.specs.Words.{Text}
use Rattle.pam_render.specs.json_lines.Line.{items_of, members_of}
use Rattle.pam_render.specs.sarif.Location.{uri_of as uri_of_path}
use Rattle.serde_json.specs.Data.{Data, array, number, object, string, unsigned}
use Rattle.serde_json.specs.Written.{compact_text}
use Rattle.pam_lsp.specs.Documents.{DocumentText, document_at}
use Rattle.pam_lsp.specs.Findings.{FindingText}
use Rattle.pam_lsp.specs.Positions.{range_of}
use Rattle.pam_lsp.specs.declared.finding.Severity.{Severity}
use Rattle.pam_lsp.specs.declared.finding.Severity.TheVariants.{Error, Warning, Note}
use Rattle.pam_lsp.specs.declared.position.Encoding.{Encoding}
use Rattle.pam_lsp.specs.declared.position.Position.{Position}
use Rattle.pam_lsp.specs.declared.position.Range.{Range}

abbrev pub position_object : Position → Data
position_object p = object (members_of ((codes "line", number (unsigned p.line)) ∷ (codes "character", number (unsigned p.character)) ∷ []))

abbrev pub range_object : Range → Data
range_object r = object (members_of ((codes "start", position_object r.start) ∷ (codes "end", position_object r.end) ∷ []))

abbrev pub severity_number : Severity → ℕ
severity_number Error = 1
severity_number Warning = 2
severity_number Note = 3

-- THE DIAGNOSTIC of a finding in a file, whose text may be at hand
abbrev pub diagnostic_object : Encoding → Option Text → FindingText → Data
diagnostic_object encoding text finding =
    object (members_of ((codes "range", range_object (range_of encoding text finding.line finding.spot))
    ∷ (codes "severity", number (unsigned (severity_number finding.severity))) ∷ (codes "code", string finding.number)
    ∷ (codes "source", string (codes "pamcheck")) ∷ (codes "message", string finding.sentence) ∷ []))

abbrev pub diagnostics_array : Encoding → Option Text → List FindingText → Data
diagnostics_array encoding text findings = array (items_of (map (diagnostic_object encoding text) findings))

-- the URI of a file: that of its document, if one is open
abbrev pub uri_of : Option DocumentText → Text → Data
uri_of (Some document) path = string document.uri
uri_of None path = string (uri_of_path path)

abbrev pub parameters_object : Data → Data → Data
parameters_object uri diagnostics = object (members_of ((codes "uri", uri) ∷ (codes "diagnostics", diagnostics) ∷ []))

-- THE PUBLICATION of the findings of a file, of which a document may be open
abbrev pub publication : Encoding → Option DocumentText → Text → List FindingText → Data
publication encoding document path findings =
    object (members_of ((codes "jsonrpc", string (codes "2.0")) ∷ (codes "method", string (codes "textDocument/publishDiagnostics"))
    ∷ (codes "params", parameters_object (uri_of document path) (diagnostics_array encoding (option_map (λ d. d.text) document) findings)) ∷ []))

abbrev pub publication_text : Encoding → List DocumentText → Text → List FindingText → Text
publication_text encoding documents path findings = compact_text (publication encoding (document_at path documents) path findings)
