use Rattle.std.proofs.Common.{◌≤◌, Some, Ok, Err, Bor, arith, ◌≡◌, ◌<◌, ℕ, zero, suc, Bool, true, false, cond, List, [], ◌∷◌, ◌++◌, map, filter}
use Rattle.std.proofs.Common.{length, get_or, set, Option, None, Vec, ap}
use Rattle.std.proofs.Common.{subst, sym, refl, ◌∙◌, get_or-set_same, get_or-set_other, ⊎_elim}
use Rattle.std.specs.Global.{Global}
use Rattle.std.proofs.lemmas.Bool.{cases_eq}
use Rattle.std.proofs.lemmas.List.{length-map}
use Rattle.std.proofs.Math.ListN.{length-set}
use Rattle.std.specs.Option.{option_map, unwrap_or}
use Rattle.std.specs.Slice.{IsItemAt}
use Rattle.pam_conf.specs.FileRules.{good_rules}
use Rattle.pam_conf.specs.inner.FileRules.{file_text, files_read}
use Rattle.pam_conf.specs.Files.{Folder, bytes_at}
use Rattle.pam_conf.specs.inner.FilesRead.{file_view}
use Rattle.pam_conf.specs.inner.Kept.{kept_view}
use Rattle.pam_conf.specs.inner.Progress.{Before, HasRules, IsTable, IsKept, in_file, of_kind, reads_by}
use Rattle.pam_conf.specs.Rule.{RuleText}
use Rattle.pam_conf.specs.Survey.{good_at}
use Rattle.pam_conf.specs.Tells.{UnlessMemory}
use Rattle.pam_conf.specs.Walk.{rules_at}
use Rattle.pam_conf.specs.declared.conf_error.ConfError.{ConfError}
use Rattle.pam_conf.specs.declared.rule.Kind.{Kind}
use Rattle.pam_conf.specs.declared.kept.KeptRule.{KeptRule}
use Rattle.pam_conf.specs.declared.rule_files.FileRules.{FileRules}
use Rattle.pam_conf.proofs.FileFaults.{rules_lent}
use Rattle.pam_conf.proofs.WalkLemmas.{unless-weaker}

abbrev pub Table : Type 0
Table = List (Option (Vec KeptRule Global))

-- no file was read
abbrev pub IsUnread : Table → Type 0
IsUnread table = (file : ℕ) → get_or table file None ≡ None

pub unread-nil : IsUnread []
unread-nil file = refl

pub unread-push : (table : Table) → IsUnread table → IsUnread (table ++ None ∷ [])
unread-push [] none zero = refl
unread-push [] none (suc file) = refl
unread-push (rules ∷ table) none zero = none zero
unread-push (rules ∷ table) none (suc file) = unread-push table (λ k. none (suc k)) file

pub table_unread : (folder : Folder) (kind : Kind) (table : Table) → length table ≡ length folder.entries → IsUnread table → IsTable folder kind table
table_unread folder kind table full none = record {
  full = full;
  kept = λ file. subst (IsKept folder kind file) (sym (none file)) tt;
}

-- storing the rules of a file keeps the table valid
pub table-set : (folder : Folder) (kind : Kind) (table : Table) (file : ℕ) (rules : Option (Vec KeptRule Global)) → file < length table →
    IsTable folder kind table → IsKept folder kind file rules → IsTable folder kind (set table file rules)
table-set folder kind table file rules within is kept = record {
  full = length-set table file rules ∙ is.full;
  kept = λ other. ⊎_elim
      (λ same. subst (λ k. IsKept folder kind k (get_or (set table file rules) k None)) (sym same)
      (subst (IsKept folder kind file) (sym (get_or-set_same table file rules None within)) kept))
      (λ apart. subst (IsKept folder kind other) (sym (get_or-set_other table file other rules None apart)) (is.kept other))
      (cases_eq other file);
}

pub map-filter : {X Y : Type 0} (view : X → Y) (test : Y → Bool) (xs : List X) → map view (filter (λ x. test (view x)) xs) ≡ filter test (map view xs)
map-filter view test [] = refl
map-filter view test (x ∷ xs) =
    elim (test (view x)) as (λ (t : Bool). map view (cond t (x ∷ filter (λ y. test (view y)) xs) (filter (λ y. test (view y)) xs))
    ≡ cond t (view x ∷ filter test (map view xs)) (filter test (map view xs))) [
      | true ↦ ap (λ ys. view x ∷ ys) (map-filter view test xs)
      | false ↦ map-filter view test xs
    ]

-- FILES THAT WERE NOT READ BEFORE

pub stored : (folder : Folder) (kind : Kind) (before : Before) (table : Table) → before ≡ None → IsTable folder kind table → HasRules folder kind before table
stored folder kind before table none is = subst (λ (b : Before). HasRules folder kind b table) (sym none) is

pub taken : (folder : Folder) (kind : Kind) (before : Before) (table : Table) → before ≡ None → HasRules folder kind before table → IsTable folder kind table
taken folder kind before table none is = subst (λ (b : Before). HasRules folder kind b table) none is

pub unread-rules : (folder : Folder) (before : Before) (kind : Kind) (file : ℕ) (rules : List RuleText) → before ≡ None →
    in_file file (of_kind kind (rules_at folder file)) ≡ Ok rules → in_file file (of_kind kind (reads_by folder before file)) ≡ Ok rules
unread-rules folder before kind file rules none is = ap (λ (b : Before). in_file file (of_kind kind (reads_by folder b file))) none ∙ is

pub unread-fault : (folder : Folder) (before : Before) (kind : Kind) (file : ℕ) (e : ConfError) → before ≡ None →
    UnlessMemory e e.kind (in_file file (of_kind kind (rules_at folder file)) ≡ Err e) →
    UnlessMemory e e.kind (in_file file (of_kind kind (reads_by folder before file)) ≡ Err e)
unread-fault folder before kind file e none =
    unless-weaker e e.kind (λ h. ap (λ (b : Before). in_file file (of_kind kind (reads_by folder b file))) none ∙ h)

-- FILES THAT WERE READ BEFORE

known_rules : (o : Option (List ℕ)) (good : List ℕ → List RuleText) (rules : List RuleText) → Some rules ≡ option_map good o → rules ≡ good (unwrap_or o [])
known_rules None good rules h = absurd (cc)
known_rules (Some bytes) good rules h = cc

-- the rules of a file are those that are read of it
pub read_before : (folder : Folder) (before : Before) (read : Bor (List FileRules)) (file : ℕ) (found : Bor FileRules) (rules : List RuleText) →
    before ≡ Some read → map file_view read.now ≡ files_read folder → IsItemAt read.now file (Some found) → rules ≡ map kept_view found.now.rules.items →
    reads_by folder before file ≡ Ok rules
read_before folder before read file found rules some is lends same =
    let given = rules_lent folder folder read.now read.now file found refl refl lends is rules same in
    ap (λ (b : Before). reads_by folder b file) some ∙ ap Ok (sym (known_rules (bytes_at file folder.entries) (good_rules folder.form) rules given))

-- each file was read
pub read_all : (folder : Folder) (read : List FileRules) (file : ℕ) → map file_view read ≡ files_read folder → file < length folder.entries →
    length read ≤ file → ⊥
read_all folder read file is within past =
    let same : length read ≡ length folder.entries =
    sym (length-map read file_view) ∙ ap length is ∙ length-map folder.entries (file_text folder.form) in
    absurd (omega (arith, same, within, past))

pub has_read : (folder : Folder) (kind : Kind) (before : Before) (read : Bor (List FileRules)) (table : Table) → before ≡ Some read →
    HasRules folder kind before table → map file_view read.now ≡ files_read folder
has_read folder kind before read table some has = subst (λ (b : Before). HasRules folder kind b table) some has

pub good_lent : (folder seen : Folder) (files slice : List FileRules) (file : ℕ) (found : Bor FileRules) (rules : List RuleText) → folder ≡ seen →
    slice ≡ files → IsItemAt slice file (Some found) → map file_view files ≡ files_read folder → rules ≡ map kept_view found.now.rules.items →
    good_at seen file ≡ Ok rules
good_lent folder seen files slice file found rules is same lends read e =
    ap Ok (sym (known_rules (bytes_at file seen.entries) (good_rules seen.form) rules
    (rules_lent folder seen files slice file found is same lends read rules e)))
