-- The list of a file, as the code makes it.
use Rattle.std.proofs.Common.{◌≡◌, ◌∙◌, ◌+◌, ◌<◌, ◌≤◌, ℕ, zero, suc, List, [], ◌∷◌, ◌++◌, append_assoc, append-nil, drop, length, get_or, map, ap, refl, sym}
use Rattle.std.proofs.Common.{Bool, true, false, cond, filter, slice_get}
use Rattle.std.proofs.Common.{Ok}
use Rattle.std.proofs.Common.{◌-◌, Option, None, Some}
use Rattle.std.specs.List.{cons_option}
use Rattle.std.specs.Option.{option_map, unwrap_or}
use Rattle.std.proofs.lemmas.List.{drop_all}
use Rattle.std.proofs.lemmas.Option.{slice_get_past}
use Rattle.pam_text.specs.Source.{source_fault}
use Rattle.pam_text.specs.Text.{file_bytes, joined, uncommented}
use Rattle.pam_conf.specs.FileRules.{file_results, good_rules, line_results}
use Rattle.pam_conf.specs.Files.{Folder, bytes_at}
use Rattle.pam_conf.specs.inner.ByKind.{indices_for, picked}
use Rattle.pam_conf.specs.inner.FilesRead.{IsIndexed, by_kind_view}
use Rattle.pam_conf.specs.inner.Kept.{kept_view}
use Rattle.pam_conf.specs.Listed.{ListedText, file_listed, further, listed, rule_listed, rules_listed}
use Rattle.pam_conf.specs.Lines.{line_rule_of}
use Rattle.pam_conf.specs.Rule.{RuleText, rule_of}
use Rattle.pam_conf.specs.Survey.{good_at}
use Rattle.pam_conf.specs.Walk.{is_of_kind}
use Rattle.pam_conf.specs.Words.{words_in}
use Rattle.pam_conf.specs.declared.rule.Form.{Form}
use Rattle.pam_conf.specs.declared.rule.Kind.{Kind}
use Rattle.pam_conf.specs.declared.rule_files.FileRules.{FileRules}
use Rattle.pam_conf.specs.declared.trail.TheConstants.{MAX_OPEN_FILES}
use Rattle.pam_conf.specs.declared.walk.Location.{Location}
use Rattle.pam_conf.proofs.KindLemmas.{kind-picked, picked-more}

module _ (folder : Folder) (kind : Kind) (room : ℕ) (includes : List Location) (file : ℕ) where
  abbrev all : List RuleText → List ListedText
  all rules = rules_listed folder kind (further folder kind room) includes file rules

  listed-rules : (rules : List RuleText) → good_at folder file ≡ Ok rules → all rules ≡ file_listed folder kind room includes file
  unfolding file_listed
  listed-rules rules is = let same : good_rules folder.form (unwrap_or (bytes_at file folder.entries) []) ≡ rules = cc in by_room room (sym same)
    where
      by_room : (n : ℕ) → rules ≡ good_rules folder.form (unwrap_or (bytes_at file folder.entries) []) →
          rules_listed folder kind (further folder kind n) includes file rules ≡ file_listed folder kind n includes file
      by_room zero same = ap (rules_listed folder kind (further folder kind zero) includes file) same
      by_room (suc n) same = ap (rules_listed folder kind (further folder kind (suc n)) includes file) same

  -- a rule of another kind lists nothing
  all-own : (rules : List RuleText) → all (filter (is_of_kind kind) rules) ≡ all rules
  all-own [] = refl
  all-own (rule ∷ rules) =
      elim (is_of_kind kind rule) as (λ (t : Bool). is_of_kind kind rule ≡ t → all (cond t (rule ∷ filter (is_of_kind kind) rules)
      (filter (is_of_kind kind) rules)) ≡ rule_listed folder kind (further folder kind room) includes file rule ++ all rules) [
        | true ↦ λ own. ap (λ l. rule_listed folder kind (further folder kind room) includes file rule ++ l) (all-own rules)
        | false ↦ λ other. all-own rules ∙ sym (rw other refl)
      ] refl

  pub list-begins : (found : FileRules) (indices : List ℕ) (old : List ListedText) → good_at folder file ≡ Ok (map kept_view found.rules.items) →
      IsIndexed found → indices ≡ indices_for kind (by_kind_view found.by_kind) →
      old ++ all (picked (map kept_view found.rules.items) (drop 0 indices)) ≡ old ++ file_listed folder kind room includes file
  list-begins found indices old is indexed own =
      let rules : List RuleText = map kept_view found.rules.items in
      ap (λ l. old ++ all (picked rules l)) own
      ∙ ap (λ l. old ++ all l) (kind-picked kind found indexed)
      ∙ ap (λ l. old ++ l) (all-own rules ∙ listed-rules rules is)

  module _ (rules : List RuleText) (indices : List ℕ) (n : ℕ) (within : n < length indices)
      (old goal : List ListedText) (so_far : old ++ all (picked rules (drop n indices)) ≡ goal) where
    abbrev rest : List RuleText
    rest = picked rules (drop (n + 1) indices)

    pub list-goes_on : (rule : RuleText) (new : List ListedText) → slice_get rules (get_or indices n 0) ≡ Some rule →
        new ≡ old ++ rule_listed folder kind (further folder kind room) includes file rule → new ++ all rest ≡ goal
    list-goes_on rule new there is =
        ap (λ l. l ++ all rest) is
        ∙ append_assoc old (rule_listed folder kind (further folder kind room) includes file rule) (all rest)
        ∙ ap (λ l. old ++ all l) (sym (picked-more rules indices n within ∙ ap (λ o. cons_option o rest) there))
        ∙ so_far

    -- an index without a rule changes nothing
    pub list-passes : slice_get rules (get_or indices n 0) ≡ None → old ++ all rest ≡ goal
    list-passes none =
        ap (λ l. old ++ all l) (sym (picked-more rules indices n within ∙ ap (λ o. cons_option o rest) none)) ∙ so_far

  pub list-ends : (rules : List RuleText) (indices : List ℕ) (n : ℕ) (items goal : List ListedText) → length indices ≤ n →
      items ++ all (picked rules (drop n indices)) ≡ goal → items ≡ goal
  list-ends rules indices n items goal past so_far =
      sym (append-nil items) ∙ ap (λ (l : List ℕ). items ++ all (picked rules l)) (sym (drop_all n indices past)) ∙ so_far

-- A FILE THAT IS NOT THERE

no-bytes : (form : Form) → good_rules form [] ≡ []
unfolding file_results line_results source_fault file_bytes uncommented joined line_rule_of words_in rule_of
no-bytes form = refl

pub list-none : (folder : Folder) (kind : Kind) (file : ℕ) → length folder.entries ≤ file → [] ≡ listed folder kind file
list-none folder kind file past =
    let none : bytes_at file folder.entries ≡ None = ap (option_map (λ f. f.1)) (slice_get_past folder.entries file past) in
    let rules : good_rules folder.form (unwrap_or (bytes_at file folder.entries) []) ≡ [] =
    ap (λ (o : Option (List ℕ)). good_rules folder.form (unwrap_or o [])) none ∙ no-bytes folder.form in
    listed-rules folder kind (MAX_OPEN_FILES - 1) [] file [] (ap Ok rules)
