-- The walk of a file by the indices of its rules of the kind.
use Rattle.std.proofs.Common.{◌≡◌, ◌<◌, ◌+◌, ◌-◌, ℕ, List, Bool, drop, filter, get_or, length, map, slice_get, Option, Some, None, Ok, Bor}
use Rattle.std.proofs.Common.{ap, refl, subst, sym, ◌∙◌}
use Rattle.std.specs.List.{cons_option}
use Rattle.std.specs.Slice.{IsItemAt}
use Rattle.pam_conf.specs.Files.{Folder}
use Rattle.pam_conf.specs.inner.ByKind.{picked}
use Rattle.pam_conf.specs.inner.FileRules.{files_read}
use Rattle.pam_conf.specs.inner.FilesRead.{file_view, kind_rules}
use Rattle.pam_conf.specs.inner.Kept.{kept_view}
use Rattle.pam_conf.specs.inner.Progress.{Before, Count, in_file, of_kind, reads_by}
use Rattle.pam_conf.specs.Rule.{RuleText}
use Rattle.pam_conf.specs.Stack.{Items}
use Rattle.pam_conf.specs.Walk.{Reads, Walk, ◌then◌, deeper, is_of_kind, rule_walk, rules_walk, walk}
use Rattle.pam_conf.specs.declared.rule.Kind.{Kind}
use Rattle.pam_conf.specs.declared.rule_files.FileRules.{FileRules}
use Rattle.pam_conf.specs.declared.trail.TheConstants.{MAX_OPEN_FILES}
use Rattle.pam_conf.proofs.KindLemmas.{indexed-lent, kind-picked, picked-more}
use Rattle.pam_conf.proofs.TableLemmas.{read_before}
use Rattle.pam_conf.proofs.WalkLemmas.{Leads, walk-kept}

-- the walk of rules in an open file
abbrev pub walk_at : Folder → Reads → Kind → Option (List ℕ) → List ℕ → ℕ → List RuleText → Walk
walk_at folder reads kind service trail file rules =
    rules_walk folder reads kind service (deeper folder reads kind service (MAX_OPEN_FILES - length trail)) trail file rules

module _ (folder : Folder) (reads : Reads) (kind : Kind) (service : Option (List ℕ)) (trail : List ℕ) (file : ℕ) (rules : List RuleText)
    (indices : List ℕ) (n : ℕ) (within : n < length indices) where
  abbrev left : ℕ → Walk
  left k = walk_at folder reads kind service trail file (picked rules (drop k indices))

  -- the walk that is left: that of the rule at the next index, and that of those after it
  pub walk-picked : (rule : RuleText) → slice_get rules (get_or indices n 0) ≡ Some rule →
      left n ≡ rule_walk folder reads kind service (deeper folder reads kind service (MAX_OPEN_FILES - length trail)) trail file rule then left (n + 1)
  walk-picked rule there =
      ap (walk_at folder reads kind service trail file) (picked-more rules indices n within
      ∙ ap (λ o. cons_option o (picked rules (drop (n + 1) indices))) there)

  -- an index without a rule changes nothing
  pub walk-passed : (on : Bool) (n0 m : Count) (i0 i : Items) (w0 : Walk) → slice_get rules (get_or indices n 0) ≡ None →
      Leads on n0 i0 w0 m i (left n) → Leads on n0 i0 w0 m i (left (n + 1))
  walk-passed on n0 m i0 i w0 none leads =
      subst (λ (l : List RuleText). Leads on n0 i0 w0 m i (walk_at folder reads kind service trail file l))
      (picked-more rules indices n within ∙ ap (λ o. cons_option o (picked rules (drop (n + 1) indices))) none) leads

-- a file that was read before is walked by its rules of the kind
pub found-walk : (folder : Folder) (before : Before) (kind : Kind) (service : Option (List ℕ)) (trail : List ℕ) (read : Bor (List FileRules)) (file : ℕ)
    (found : Bor FileRules) → before ≡ Some read → map file_view read.now ≡ files_read folder → IsItemAt read.now file (Some found) →
    walk_at folder (reads_by folder before) kind service trail file (kind_rules kind found.now)
    ≡ walk folder (reads_by folder before) kind service (MAX_OPEN_FILES - length trail) trail file
found-walk folder before kind service trail read file found some is lends =
    let rules : List RuleText = map kept_view found.now.rules.items in
    let all : reads_by folder before file ≡ Ok rules = read_before folder before read file found rules some is lends refl in
    let own : kind_rules kind found.now ≡ filter (is_of_kind kind) rules =
    kind-picked kind found.now (indexed-lent folder folder read.now read.now file found refl refl lends is) in
    sym (walk-kept folder (reads_by folder before) kind service (MAX_OPEN_FILES - length trail) trail file (kind_rules kind found.now)
    (ap (λ r. in_file file (of_kind kind r)) all ∙ ap Ok (sym own)))
