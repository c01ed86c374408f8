-- The calls of the files of a configuration, one after another.
use Rattle.std.proofs.Common.{◌≡◌, ◌∙◌, ◌+◌, ◌≤◌, ℕ, zero, suc, List, [], ◌∷◌, ◌++◌, ap, append-nil, append_assoc, arith, drop, length, refl, sym}
use Rattle.std.proofs.Math.Seq.{drop-nil}
use Rattle.std.proofs.lemmas.List.{at_drop_all}
use Rattle.std.specs.List.{flat_map}
use Rattle.std.specs.Option.{option_map_or}
use Rattle.pam_conf.specs.Files.{Folder, Named, bytes_at}
use Rattle.pam_conf.specs.declared.rule.Form.{Form}
use Rattle.pam_policy.specs.names.Calls.{calls_in, calls_of}
use Rattle.pam_policy.specs.names.Host.{CallText}

abbrev calls_of_files : Form → List Named → List CallText
calls_of_files form files = flat_map (λ (file : Named). calls_of form file.1) files

-- the calls of the file at a position, and those of the files after it
file_first : (form : Form) (files : List Named) (position : ℕ) →
    option_map_or (calls_of form) (bytes_at position files) [] ++ calls_of_files form (drop (position + 1) files)
    ≡ calls_of_files form (drop position files)
file_first form [] position = ap (calls_of_files form) (drop-nil (position + 1)) ∙ sym (ap (calls_of_files form) (drop-nil position))
file_first form (file ∷ files) zero = refl
file_first form (file ∷ files) (suc position) =
    let next : suc position + 1 ≡ suc (position + 1) = omega arith in
    ap (λ n. option_map_or (calls_of form) (bytes_at position files) [] ++ calls_of_files form (drop n (file ∷ files))) next
    ∙ file_first form files position

pub file_more : (folder : Folder) (position : ℕ) (now new : List CallText) →
    now ++ calls_of_files folder.form (drop position folder.entries) ≡ calls_in folder →
    new ≡ now ++ option_map_or (calls_of folder.form) (bytes_at position folder.entries) [] →
    new ++ calls_of_files folder.form (drop (position + 1) folder.entries) ≡ calls_in folder
file_more folder position now new so_far added =
    ap (λ calls. calls ++ calls_of_files folder.form (drop (position + 1) folder.entries)) added
    ∙ append_assoc now (option_map_or (calls_of folder.form) (bytes_at position folder.entries) [])
    (calls_of_files folder.form (drop (position + 1) folder.entries))
    ∙ ap (λ calls. now ++ calls) (file_first folder.form folder.entries position)
    ∙ so_far

pub files_all : (folder : Folder) (position : ℕ) (now : List CallText) → length folder.entries ≤ position →
    now ++ calls_of_files folder.form (drop position folder.entries) ≡ calls_in folder → now ≡ calls_in folder
files_all folder position now past so_far =
    sym (ap (λ calls. now ++ calls) (at_drop_all (calls_of_files folder.form) folder.entries position past) ∙ append-nil now) ∙ so_far
