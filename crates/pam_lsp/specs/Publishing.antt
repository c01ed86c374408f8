-- What is published of the folders of open documents.
use Rattle.std.specs.Prelude.{◌≡◌, List, ◌++◌, fold, map}
use Rattle.std.specs.List.{filter}
use Rattle.std.specs.Str.{bytes_eq}
use Rattle.clap.specs.Words.{Text}
use Rattle.pam_cli.specs.System.{Told}
use Rattle.serde_json.specs.Data.{Data}
use Rattle.pam_lsp.specs.Checks.{AreLines, each_once, folders_of, with_new}
use Rattle.pam_lsp.specs.Documents.{DocumentText}
use Rattle.pam_lsp.specs.Findings.{FindingText, findings_in}
use Rattle.pam_lsp.specs.Overlay.{over}
use Rattle.pam_lsp.specs.Publications.{publication_text}
use Rattle.pam_lsp.specs.declared.position.Encoding.{Encoding}

-- the files of findings, each once
abbrev pub files_of : List FindingText → List Text
files_of findings = each_once (map (λ f. f.file) findings)

-- files, and then those of which something was published before
abbrev pub with_old : List Text → List Text → List Text
with_old files old = fold with_new files old

abbrev pub findings_at : Text → List FindingText → List FindingText
findings_at path findings = filter (λ f. bytes_eq f.file path) findings

-- the message of a file: all its findings, which may be none
abbrev pub published_of : Encoding → List DocumentText → List FindingText → Text → Text
published_of encoding documents findings path = publication_text encoding documents path (findings_at path findings)

-- WHAT IS PUBLISHED: a message for each file that has a finding of a check of the folders, where the documents stand in the place of
-- their files, and for each other file of which something was published before. `now` are the files that have findings
pub record Publishes (told : Told) (encoding : Encoding) (documents : List DocumentText) (before now sent_before sent_now : List Text)
    : Type 0 where
  pub lines : List Data
  pub checked : AreLines (over told documents) (folders_of documents) lines
  pub files : now ≡ files_of (findings_in lines)
  pub sent : sent_now ≡ sent_before ++ map (published_of encoding documents (findings_in lines)) (with_old now before)
