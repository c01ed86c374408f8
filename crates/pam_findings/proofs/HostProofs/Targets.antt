-- The names of the files that rules include, rule by rule and file by file.
use Rattle.std.proofs.Common.{◌≡◌, ◌∙◌, ◌+◌, ◌<◌, ◌≤◌, ◌||◌, ℕ, zero, suc, Bool, true, false, List, [], ◌∷◌, ◌++◌, ap, arith, cond, drop, get_or}
use Rattle.std.proofs.Common.{length, map, refl, sym}
use Rattle.std.proofs.Math.Seq.{drop-nil}
use Rattle.std.proofs.lemmas.List.{drop_all, drop_more}
use Rattle.std.proofs.lemmas.List.Folds.{list_any-append}
use Rattle.std.specs.List.{list_any}
use Rattle.std.specs.Option.{option_map, option_map_or}
use Rattle.std.specs.Str.{bytes_eq}
use Rattle.pam_conf.specs.FileRules.{good_rules}
use Rattle.pam_conf.specs.Files.{Folder, Named, bytes_at}
use Rattle.pam_conf.specs.Rule.{rule_view}
use Rattle.pam_conf.specs.Services.{with_name}
use Rattle.pam_conf.specs.Targets.{is_target, names_target}
use Rattle.pam_conf.specs.declared.rule.Form.{Form}
use Rattle.pam_conf.specs.declared.rule.Rule.{Rule}
use Rattle.pam_findings.specs.host.inner.Targets.{AddsNames, names_in_file}
use Rattle.pam_findings.proofs.AcceptedProofs.KeySteps.{any_there, or_false}

or-assoc : (a b c : Bool) → ((a || b) || c) ≡ (a || (b || c))
or-assoc true b c = refl
or-assoc false b c = refl

-- names with one more, if it is not among them
with-one : (names : List (List ℕ)) (added name : List ℕ) →
    list_any (bytes_eq name) (with_name names added) ≡ (list_any (bytes_eq name) names || bytes_eq name added)
with-one names added name =
    (elim (list_any (bytes_eq added) names) as (λ (t : Bool). list_any (bytes_eq added) names ≡ t
    → list_any (bytes_eq name) (cond t names (names ++ added ∷ [])) ≡ (list_any (bytes_eq name) names || bytes_eq name added)) [
      | true ↦ λ there. any_there name added names (bytes_eq name added) refl there
      | false ↦ λ other.
          list_any-append (bytes_eq name) names (added ∷ []) ∙ ap (λ t. list_any (bytes_eq name) names || t) (or_false (bytes_eq name added))
    ] refl)

pub added-one : (names new : List (List ℕ)) (added name : List ℕ) (is_named : Bool) → new ≡ with_name names added → is_named ≡ bytes_eq name added →
    list_any (bytes_eq name) new ≡ (list_any (bytes_eq name) names || is_named)
added-one names new added name is_named put is =
    ap (list_any (bytes_eq name)) put ∙ with-one names added name ∙ ap (λ t. list_any (bytes_eq name) names || t) (sym is)

-- THE RULES OF A FILE

module _ (name : List ℕ) (rules : List Rule) where
  pub rules-more : (n : ℕ) (rule d : Rule) (now next : List (List ℕ)) (all : Bool) → n < length rules → rule ≡ get_or rules n d →
      AddsNames (λ name. names_target name (rule_view rule)) now next →
      (list_any (bytes_eq name) now || list_any (names_target name) (map rule_view (drop n rules))) ≡ all →
      (list_any (bytes_eq name) next || list_any (names_target name) (map rule_view (drop (n + 1) rules))) ≡ all
  rules-more n rule d now next all within is added so_far =
      let had = list_any (bytes_eq name) now in
      let left = list_any (names_target name) (map rule_view (drop (n + 1) rules)) in
      ap (λ t. t || left) (added name)
      ∙ or-assoc had (names_target name (rule_view rule)) left
      ∙ ap (λ (r : Rule). had || (names_target name (rule_view r) || left)) is
      ∙ sym (ap (λ (rs : List Rule). had || list_any (names_target name) (map rule_view rs)) (drop_more rules n d within))
      ∙ so_far

  pub rules-all : (n : ℕ) (now : List (List ℕ)) (all : Bool) → length rules ≤ n →
      (list_any (bytes_eq name) now || list_any (names_target name) (map rule_view (drop n rules))) ≡ all → list_any (bytes_eq name) now ≡ all
  rules-all n now all past so_far =
      let had = list_any (bytes_eq name) now in
      sym (ap (λ (rs : List Rule). had || list_any (names_target name) (map rule_view rs)) (drop_all n rules past) ∙ or_false had) ∙ so_far

-- ALL FILES

abbrev names_in_files : Form → List ℕ → List Named → Bool
names_in_files form name files = list_any (λ (file : Named). list_any (names_target name) (good_rules form file.1)) files

-- the file at a position, and the files after it
file-first : (form : Form) (name : List ℕ) (files : List Named) (n : ℕ) →
    (option_map_or (list_any (names_target name)) (option_map (good_rules form) (bytes_at n files)) false || names_in_files form name (drop (n + 1) files))
    ≡ names_in_files form name (drop n files)
file-first form name [] n = ap (names_in_files form name) (drop-nil (n + 1)) ∙ sym (ap (names_in_files form name) (drop-nil n))
file-first form name (file ∷ files) zero = refl
file-first form name (file ∷ files) (suc n) =
    let next : suc n + 1 ≡ suc (n + 1) = omega arith in
    ap (λ k. option_map_or (list_any (names_target name)) (option_map (good_rules form) (bytes_at n files)) false
    || names_in_files form name (drop k (file ∷ files))) next
    ∙ file-first form name files n

module _ (folder : Folder) (name : List ℕ) where
  pub files-more : (n : ℕ) (now next : List (List ℕ)) → AddsNames (names_in_file folder n) now next →
      (list_any (bytes_eq name) now || names_in_files folder.form name (drop n folder.entries)) ≡ is_target folder name →
      (list_any (bytes_eq name) next || names_in_files folder.form name (drop (n + 1) folder.entries)) ≡ is_target folder name
  files-more n now next added so_far =
      let had = list_any (bytes_eq name) now in
      let left = names_in_files folder.form name (drop (n + 1) folder.entries) in
      ap (λ t. t || left) (added name)
      ∙ or-assoc had (names_in_file folder n name) left
      ∙ ap (λ t. had || t) (file-first folder.form name folder.entries n)
      ∙ so_far

  pub files-all : (n : ℕ) (now : List (List ℕ)) → length folder.entries ≤ n →
      (list_any (bytes_eq name) now || names_in_files folder.form name (drop n folder.entries)) ≡ is_target folder name →
      list_any (bytes_eq name) now ≡ is_target folder name
  files-all n now past so_far =
      let had = list_any (bytes_eq name) now in
      sym (ap (λ (files : List Named). had || names_in_files folder.form name files) (drop_all n folder.entries past) ∙ or_false had) ∙ so_far
