-- A check of the folders of open documents.
use Rattle.std.specs.Prelude.{◌≡◌, ℕ, Bool, List, [], ◌∷◌, ◌++◌, Some, Vec, codes, fold, if◌then◌else◌, map}
use Rattle.std.specs.Global.{Global}
use Rattle.std.specs.List.{list_any}
use Rattle.std.specs.Str.{bytes_eq}
use Rattle.clap.specs.Words.{Text}
use Rattle.pam_cli.specs.Run.{Runs}
use Rattle.pam_cli.specs.System.{Told}
use Rattle.pam_codes.specs.Out.{Out}
use Rattle.serde_json.specs.Data.{Data}
use Rattle.pam_lsp.specs.Documents.{DocumentText}
use Rattle.pam_lsp.specs.Findings.{values_of}

-- ---- texts, each once, in the order in which they come first

abbrev pub has : Text → List Text → Bool
has text texts = list_any (λ other. bytes_eq other text) texts

abbrev pub with_new : List Text → Text → List Text
with_new texts text = if has text texts then texts else texts ++ text ∷ []

abbrev pub each_once : List Text → List Text
each_once texts = fold with_new [] texts

abbrev pub folders_of : List DocumentText → List Text
folders_of documents = each_once (map (λ d. d.folder) documents)

-- ---- the run

abbrev pub check_words : Text → List Text
check_words folder =
    codes "pamcheck" ∷ codes "check" ∷ codes "--dir" ∷ folder ∷ codes "--format" ∷ codes "json" ∷ []

-- nothing is written yet
pub record IsFresh (out : Out (Vec ℕ Global)) : Type 0 where
  pub inner : out.inner.items ≡ []
  pub taken : out.taken ≡ 0
  pub failures : out.failures ≡ 0
  pub flushes : out.flushes ≡ 0

-- THE ANSWER: what the program writes to standard output when it checks a folder
pub record IsAnswer (told : Told) (folder answer : Text) : Type 0 where
  pub before : Out (Vec ℕ Global)
  pub after : Out (Vec ℕ Global)
  pub status : ℕ
  pub fresh : IsFresh before
  pub runs : Runs told (λ (v : Vec ℕ Global). Some v.items) before after status (check_words folder)
  pub written : answer ≡ after.inner.items

-- the values of the lines of the answers for folders
abbrev pub AreLines : Told → List Text → List Data → Type 0
AreLines told [] values = values ≡ []
AreLines told (folder ∷ folders) values =
    (answer : Text) × (rest : List Data) × IsAnswer told folder answer × AreLines told folders rest × (values ≡ values_of answer ++ rest)
