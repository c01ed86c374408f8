-- The text of `check --format patch`: a unified diff of each file with mendings that are certain.
use Rattle.std.specs.Prelude.{◌≡◌, ℕ, ◌==◌, ◌&&◌, nat_eq, nat_lt, not, Bool, List, [], ◌∷◌, codes, drop, if◌then◌else◌, length, Some, Result, Ok}
use Rattle.std.specs.List.{filter, flat_map, list_all, range_with_len, starts_with}
use Rattle.pam_conf.specs.Files.{Folder}
use Rattle.pam_conf.specs.declared.rule.Form.{Form}
use Rattle.pam_findings.specs.misspelled.Lines.{bytes_of}
use Rattle.pam_paths.specs.declared.cursor.CursorError.{CursorError}
use Rattle.pam_render.specs.parts.Check.{path_of}
use Rattle.pam_render.specs.patch_text.Hunk.{diff, first_of, last_of}
use Rattle.pam_render.specs.patch_text.Mended.{Mending, is_certain, kept_of, mended, reading_of}
use Rattle.pam_render.specs.patch_text.Mendings.{mendings_of}
use Rattle.pam_report.specs.Reply.{Check, CheckValue, Reply}

-- THE PATH of a file in a patch: without a slash or the folder itself before it
abbrev pub patch_path : List ℕ → List ℕ
patch_path path = if starts_with nat_eq path (codes "/") then drop 1 path else if starts_with nat_eq path (codes "./") then drop 2 path else path

-- a byte of a path that needs no quotes: no blank, no control character, no quote and no backslash
abbrev pub is_path_byte : ℕ → Bool
is_path_byte byte = nat_lt 32 byte && (not (byte == 34) && (not (byte == 92) && not (byte == 127)))

-- a patch can name the file
abbrev pub is_named : List ℕ → Bool
is_named path = list_all is_path_byte path

-- the diff of a file with mendings, if they are certain
abbrev pub certain_diff : Form → List ℕ → List ℕ → List Mending → Mending → List ℕ → List ℕ
certain_diff form path old mendings first new =
    if is_certain mendings (reading_of form old) (reading_of form new)
    then diff path (first_of first.at mendings) (last_of first.at mendings) old new else []

-- that with those that are kept, of which there may be none
abbrev pub kept_diff : Form → List ℕ → List ℕ → List Mending → List ℕ
kept_diff form path old [] = []
kept_diff form path old (m ∷ mendings) = certain_diff form path old (m ∷ mendings) m (mended (m ∷ mendings) old)

abbrev pub own_diff : Form → List ℕ → List ℕ → List Mending → List ℕ
own_diff form path old [] = []
own_diff form path old (m ∷ mendings) = kept_diff form path old (kept_of form old (m ∷ mendings))

abbrev pub mendings_in : ℕ → List Mending → List Mending
mendings_in file mendings = filter (λ m. m.file == file) mendings

abbrev pub named_diff : Form → List ℕ → List ℕ → List Mending → List ℕ
named_diff form path old mendings = if is_named path then own_diff form path old mendings else []

-- THE DIFF of the file at a position
abbrev pub file_diff : Folder → List (List ℕ) → List Mending → ℕ → List ℕ
file_diff files paths mendings file =
    named_diff files.form (patch_path (path_of paths (Some file))) (bytes_of files (Some file)) (mendings_in file mendings)

abbrev pub diffs : Folder → List (List ℕ) → List Mending → List ℕ
diffs files paths mendings = flat_map (file_diff files paths mendings) (range_with_len 0 (length files.entries))

-- the patch of a check whose files are these
abbrev pub patch_of : Folder → CheckValue → List ℕ
patch_of files value = diffs files value.paths (mendings_of files value.misspelled value.found)

-- THE PATCH of `check`
abbrev pub check_patch : CheckValue → List ℕ
check_patch value = patch_of value.files value

-- THE PATCH of a reply, which those of other commands have not
abbrev pub IsPatch : Reply → Result (List ℕ) CursorError → Type 0
IsPatch (Check found) text = text ≡ Ok (check_patch found)
IsPatch reply text = ⊥
