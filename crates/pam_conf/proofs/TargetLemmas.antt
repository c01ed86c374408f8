-- The targets of rules, as the code stores them.
use Rattle.std.proofs.Common.{◌≡◌, ◌||◌, ◌∙◌, ℕ, Bool, List, [], ◌∷◌, map, ap, refl, sym}
use Rattle.std.specs.List.{list_any}
use Rattle.pam_conf.specs.inner.FileRules.{FileText, file_text, files_read}
use Rattle.pam_conf.specs.Files.{Folder}
use Rattle.pam_conf.specs.inner.FilesRead.{file_view}
use Rattle.pam_conf.specs.Targets.{is_target, names_target}
use Rattle.pam_conf.specs.declared.rule_files.FileRules.{FileRules}

pub any-map : {X Y : Type 0} (test : Y → Bool) (view : X → Y) (xs : List X) → list_any test (map view xs) ≡ list_any (λ x. test (view x)) xs
any-map test view [] = refl
any-map test view (x ∷ xs) = ap (λ b. test (view x) || b) (any-map test view xs)

-- a file as it was read has the target
abbrev text_names : List ℕ → FileText → Bool
text_names name text = list_any (names_target name) text.rules

pub target-read : (folder : Folder) (name : List ℕ) (files : List FileRules) → map file_view files ≡ files_read folder →
    list_any (λ f. text_names name (file_view f)) files ≡ is_target folder name
target-read folder name files read =
    sym (any-map (text_names name) file_view files)
    ∙ ap (list_any (text_names name)) read
    ∙ any-map (text_names name) (file_text folder.form) folder.entries
