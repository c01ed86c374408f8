-- The right words that may stand for one that is wrong: pam.conf(5), its types, its simple controls and what may stand in brackets; the
-- names of files; and the modules that are there.
use Rattle.std.specs.Prelude.{ℕ, List, [], ◌∷◌, ◌++◌, codes, map, take, Option, None, unwrap_or}
use Rattle.std.specs.Char.{to_ascii_lowercase}
use Rattle.pam_codes.specs.Code.{code_names}
use Rattle.pam_codes.specs.declared.error.ControlError.{ControlError}
use Rattle.pam_codes.specs.declared.error.ControlError.TheVariants.{BadControl, BadValue, BadAction}
use Rattle.pam_conf.specs.Files.{Folder}
use Rattle.pam_conf.specs.declared.error.FaultKind.{FaultKind}
use Rattle.pam_conf.specs.declared.error.FaultKind.TheVariants.{BadKind, Control, NoService}
use Rattle.pam_facts.specs.known.Answers.{name_of_path}
use Rattle.pam_spelling.specs.Nearest.{nearest}
use Rattle.pam_findings.specs.misspelled.Actions.{nearest_action}
use Rattle.pam_findings.specs.declared.misspelled.right_words.TheConstants.{MAX_NAMES}

abbrev pub kinds : List (List ℕ)
kinds = codes "auth" ∷ codes "account" ∷ codes "password" ∷ codes "session" ∷ []

abbrev pub controls : List (List ℕ)
controls = codes "required" ∷ codes "requisite" ∷ codes "sufficient" ∷ codes "optional" ∷ codes "include" ∷ codes "substack" ∷ []

-- what may stand before `=`
abbrev pub values : List (List ℕ)
values = code_names ++ codes "incomplete" ∷ codes "default" ∷ []

-- the names of files that may stand for that of a target
abbrev pub first_names : Folder → List (List ℕ)
first_names files = take MAX_NAMES (map (λ f. f.0) files.entries)

-- the modules that are there and may stand for one that is not
abbrev pub first_modules : Option (List (List ℕ)) → List (List ℕ)
first_modules there = take MAX_NAMES (unwrap_or there [])

-- kinds and controls are compared without case, and names of files and modules with it
abbrev pub nearest_control : ControlError → List ℕ → Option (List ℕ)
nearest_control BadControl word = nearest controls (map to_ascii_lowercase word)
nearest_control BadValue word = nearest values (map to_ascii_lowercase word)
nearest_control BadAction word = nearest_action (map to_ascii_lowercase word)
nearest_control error word = None

abbrev pub nearest_right : List (List ℕ) → FaultKind → List ℕ → Option (List ℕ)
nearest_right names BadKind word = nearest kinds (map to_ascii_lowercase word)
nearest_right names (Control error) word = nearest_control error word
nearest_right names NoService word = nearest names word
nearest_right names fault word = None

-- that of a path is the nearest to the name after its last slash
abbrev pub nearest_module : List (List ℕ) → List ℕ → Option (List ℕ)
nearest_module modules path = nearest modules (name_of_path path)
