-- The lines of the answers for several folders.
use Rattle.std.proofs.Common.{◌≡◌, ◌∙◌, ◌+◌, ◌<◌, ℕ, Global, List, String, [], ◌∷◌, ◌++◌, get_or, length, map, string_bytes, take}
use Rattle.std.proofs.Common.{ap, append-nil, append_assoc, refl, subst, sym}
use Rattle.std.proofs.lemmas.List.{map-append, take_more}
use Rattle.clap.specs.Words.{Text}
use Rattle.pam_cli.specs.System.{Told}
use Rattle.serde_json.specs.Data.{Data}
use Rattle.pam_lsp.specs.Checks.{AreLines, IsAnswer}
use Rattle.pam_lsp.specs.Findings.{values_of}

-- one folder more
pub lines-more : (told : Told) (folders : List Text) (folder : Text) (values : List Data) (answer : Text) → AreLines told folders values
    → IsAnswer told folder answer → AreLines told (folders ++ folder ∷ []) (values ++ values_of answer)
lines-more told [] folder values answer none h =
    (answer, [], h, refl, ap (λ (vs : List Data). vs ++ values_of answer) none ∙ sym (append-nil (values_of answer)))
lines-more told (first ∷ folders) folder values answer some h = (
  some.0,
  some.1 ++ values_of answer,
  some.2,
  lines-more told folders folder some.1 answer some.3 h,
  ap (λ (vs : List Data). vs ++ values_of answer) some.4 ∙ append_assoc (values_of some.0) some.1 (values_of answer),
)

abbrev texts : List (String Global) → List Text
texts folders = map string_bytes folders

-- the same of the folders so far
pub lines-at : (told : Told) (folders : List (String Global)) (i : ℕ) (d : String Global) (values new : List Data) (answer : Text) → i < length folders
    → AreLines told (texts (take i folders)) values → IsAnswer told (string_bytes (get_or folders i d)) answer → new ≡ values ++ values_of answer
    → AreLines told (texts (take (i + 1) folders)) new
lines-at told folders i d values new answer low some h same =
    let one_more : texts (take (i + 1) folders) ≡ texts (take i folders) ++ (string_bytes (get_or folders i d)) ∷ [] =
    ap texts (take_more folders i d low) ∙ map-append string_bytes (take i folders) (get_or folders i d ∷ []) in
    subst (λ (fs : List Text). AreLines told fs new) (sym one_more)
    (subst (λ (vs : List Data). AreLines told (texts (take i folders) ++ (string_bytes (get_or folders i d)) ∷ []) vs) (sym same)
    (lines-more told (texts (take i folders)) (string_bytes (get_or folders i d)) values answer some h))
