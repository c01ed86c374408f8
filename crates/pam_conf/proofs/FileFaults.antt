-- The rules of a file, or its first fault, by what is read of each line.
use Rattle.std.proofs.Common.{◌≡◌, ◌<◌, ◌+◌, ℕ, add-one, get_or, take, List, [], ◌∷◌, ◌++◌, map, Option, Some, None, OnOk, Result, Ok, Err, Bor}
use Rattle.std.proofs.Common.{length, slice_get, ap, append-nil, refl, ◌∙◌, sym}
use Rattle.std.proofs.lemmas.Option.{slice_get-get_or, slice_get-map, slice_get_past, slice_get_read}
use Rattle.std.proofs.Math.Seq.{take-suc}
use Rattle.std.proofs.lemmas.List.{map-append}
use Rattle.std.specs.List.{cons_option}
use Rattle.std.specs.Option.{option_map, option_map_or, unwrap_or}
use Rattle.std.specs.Result.{result_transpose}
use Rattle.std.specs.Slice.{IsItemAt}
use Rattle.std.specs.declared.alloc.AllocError.{AllocError}
use Rattle.pam_text.specs.Source.{source_fault}
use Rattle.pam_text.specs.Text.{text_of, lines_of}
use Rattle.pam_text.specs.declared.source.SourceFault.{SourceFault}
use Rattle.pam_conf.specs.FileRules.{LineResult, faults_among, file_results, good_rules, line_results, own_faults, rules_among, unless_faulty}
use Rattle.pam_conf.specs.inner.ByKind.{indices_of}
use Rattle.pam_conf.specs.inner.FileRules.{file_text, files_read}
use Rattle.pam_conf.specs.Files.{Folder, Named, bytes_at}
use Rattle.pam_conf.specs.inner.FilesRead.{IsIndexed, by_kind_view, file_view}
use Rattle.pam_conf.specs.inner.Kept.{kept_view}
use Rattle.pam_conf.specs.Laws.{FirstFaultOrRules}
use Rattle.pam_conf.specs.Lines.{fault_of_source, onto_rules, rules_in, rules_of}
use Rattle.pam_conf.specs.Rule.{RuleText}
use Rattle.pam_conf.specs.Tells.{FailsAs}
use Rattle.pam_conf.specs.declared.error.FaultKind.{FaultKind}
use Rattle.pam_conf.specs.declared.error.FaultKind.TheVariants.{Memory}
use Rattle.pam_conf.specs.declared.error.RuleFault.{RuleFault}
use Rattle.pam_conf.specs.declared.rule.Form.{Form}
use Rattle.pam_conf.specs.declared.rule_files.FileRules.{FileRules}
use Rattle.pam_conf.proofs.LineSteps.{gathered, rules_in-gathered}

onto_unless : (rule : RuleText) (faults : List RuleFault) (rules : List RuleText) →
    onto_rules (Ok (Some rule)) (unless_faulty faults rules) ≡ unless_faulty faults (rule ∷ rules)
onto_unless rule [] rules = refl
onto_unless rule (fault ∷ faults) rules = refl

gathered-unless : (results : List LineResult) → gathered results ≡ unless_faulty (faults_among results) (rules_among results)
unfolding gathered
gathered-unless [] = refl
gathered-unless (Ok rule ∷ results) =
    ap (onto_rules (Ok (Some rule))) (gathered-unless results) ∙ onto_unless rule (faults_among results) (rules_among results)
gathered-unless (Err fault ∷ results) = refl

pub first_fault : FirstFaultOrRules
unfolding rules_of file_results
first_fault form bytes =
    elim (source_fault bytes) as (λ (o : Option SourceFault).
    option_map_or (λ fault. Err (fault_of_source fault)) o (rules_in form (lines_of (text_of 1 bytes)))
    ≡ unless_faulty (faults_among (option_map_or (λ fault. Err (fault_of_source fault) ∷ []) o (line_results form (lines_of (text_of 1 bytes)))))
    (rules_among (option_map_or (λ fault. Err (fault_of_source fault) ∷ []) o (line_results form (lines_of (text_of 1 bytes)))))) [
      | None ↦ rules_in-gathered form (lines_of (text_of 1 bytes)) ∙ gathered-unless (line_results form (lines_of (text_of 1 bytes)))
      | Some fault ↦ refl
    ]

-- a line's fault

not_memory : {Y : Type 0} (fault : RuleFault) (kind : FaultKind) (meant : Result Y RuleFault) → FailsAs fault kind meant → (kind ≡ Memory → ⊥) →
    meant ≡ Err fault
not_memory fault Memory meant h ours = absurd (ours refl)
not_memory fault kind meant h ours = h

-- a fault that is taken is the result of the line
pub fault_taken : (taken : Result (Unit {0}) AllocError) (fault : RuleFault) (meant : Result (Option RuleText) RuleFault) (old_rules new_rules : List RuleText)
    (old_faults new_faults : List RuleFault) → FailsAs fault fault.kind meant → OnOk taken (fault.kind ≡ Memory → ⊥) →
    new_rules ≡ old_rules → OnOk taken (new_faults ≡ old_faults ++ fault ∷ []) →
    OnOk taken (new_rules ≡ old_rules ++ rules_among (cons_option (result_transpose meant) []))
    × OnOk taken (new_faults ≡ old_faults ++ faults_among (cons_option (result_transpose meant) []))
fault_taken (Ok done) fault meant old_rules new_rules old_faults new_faults fails ours rules faults =
    let is : meant ≡ Err fault = not_memory fault fault.kind meant fails ours in
    rw is (rules ∙ sym (append-nil old_rules), faults)
fault_taken (Err error) fault meant old_rules new_rules old_faults new_faults fails ours rules faults = (tt, tt)

-- a file as it was read
pub read_at : (folder : Folder) (files : List FileRules) (position : ℕ) → map file_view files ≡ files_read folder →
    option_map file_view (slice_get files position) ≡ option_map (file_text folder.form) (slice_get folder.entries position)
read_at folder files position read =
    sym (slice_get-map file_view files position) ∙ ap (λ xs. slice_get xs position) read ∙ slice_get-map (file_text folder.form) folder.entries position

pub lent : {X : Type 0} (files : List X) (position : ℕ) (found : Option (Bor X)) → IsItemAt files position found →
    option_map (λ b. b.now) found ≡ slice_get files position
lent files position None h = sym (slice_get_past files position h.3)
lent files position (Some file) h = sym (slice_get_read files (length files) position file.now refl h.3.0 h.1)

faults_of : (form : Form) (o : Option Named) → option_map (λ t. t.faults) (option_map (file_text form) o) ≡ option_map (own_faults form) (option_map
    (λ f. f.1) o)
faults_of form None = refl
faults_of form (Some f) = refl

rules_of_text : (form : Form) (o : Option Named) → option_map (λ t. t.rules) (option_map (file_text form) o) ≡ option_map (good_rules form)
    (option_map (λ f. f.1) o)
rules_of_text form None = refl
rules_of_text form (Some f) = refl

-- the file that a table of files lends
module _ (folder seen : Folder) (files slice : List FileRules) (position : ℕ) (file : Bor FileRules) (is : folder ≡ seen) (same : slice ≡ files)
    (lends : IsItemAt slice position (Some file)) (read : map file_view files ≡ files_read folder) where
  pub file_lent : Some (file_view file.now) ≡ option_map (file_text seen.form) (slice_get seen.entries position)
  file_lent =
      ap (option_map file_view) (lent slice position (Some file) lends ∙ ap (λ xs. slice_get xs position) same)
      ∙ read_at folder files position read
      ∙ ap (λ (f : Folder). option_map (file_text f.form) (slice_get f.entries position)) is

  pub faults_lent : (faults : List RuleFault) → faults ≡ file.now.faults.items → Some faults ≡ option_map (own_faults seen.form)
      (bytes_at position seen.entries)
  faults_lent faults e = ap Some e ∙ ap (option_map (λ t. t.faults)) file_lent ∙ faults_of seen.form (slice_get seen.entries position)

  pub rules_lent : (rules : List RuleText) → rules ≡ map kept_view file.now.rules.items →
      Some rules ≡ option_map (good_rules seen.form) (bytes_at position seen.entries)
  rules_lent rules e = ap Some e ∙ ap (option_map (λ t. t.rules)) file_lent ∙ rules_of_text seen.form (slice_get seen.entries position)

-- one more file is read
pub read_next : (folder : Folder) (files : List FileRules) (file : FileRules) (k : ℕ) (bytes : List ℕ) → k < length folder.entries →
    map file_view files ≡ map (file_text folder.form) (take k folder.entries) → bytes ≡ unwrap_or (bytes_at k folder.entries) [] →
    map kept_view file.rules.items ≡ good_rules folder.form bytes → file.faults.items ≡ own_faults folder.form bytes → IsIndexed file →
    map file_view (files ++ file ∷ []) ≡ map (file_text folder.form) (take (k + 1) folder.entries)
read_next folder files file k bytes within before is rules faults indexed =
    let entry : Named = get_or folder.entries k ([], []) in
    let there : slice_get folder.entries k ≡ Some entry = slice_get-get_or folder.entries k ([], []) within in
    let same : bytes ≡ entry.1 = is ∙ ap (λ o. unwrap_or (option_map (λ f. f.1) o) []) there in
    let by_kind : by_kind_view file.by_kind ≡ indices_of (good_rules folder.form bytes) = indexed ∙ ap indices_of rules in
    let new : file_view file ≡ file_text folder.form entry = rw (by_kind, rules, faults, same) refl in
    map-append file_view files (file ∷ [])
    ∙ ap (λ texts. texts ++ file_view file ∷ []) before
    ∙ ap (λ text. map (file_text folder.form) (take k folder.entries) ++ text ∷ []) new
    ∙ sym (map-append (file_text folder.form) (take k folder.entries) (entry ∷ []))
    ∙ ap (map (file_text folder.form)) (sym (rw add-one (take-suc folder.entries k ([], []) within)))

-- the bytes of a file that is there, or none
pub unwrapped : (found : Option (Bor (List ℕ))) (empty taken : Bor (List ℕ)) (known : Option (List ℕ)) → taken ≡ unwrap_or found empty →
    option_map (λ b. b.now) found ≡ known → empty.now ≡ [] → taken.now ≡ unwrap_or known []
unwrapped None empty taken known is same none = ap (λ (b : Bor (List ℕ)). b.now) is ∙ none ∙ ap (λ o. unwrap_or o []) same
unwrapped (Some bytes) empty taken known is same none = ap (λ (b : Bor (List ℕ)). b.now) is ∙ ap (λ o. unwrap_or o []) same
