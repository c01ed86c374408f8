-- The rules of a kind, by their indices.
use Rattle.std.proofs.Common.{◌≡◌, ◌+◌, ℕ, Bool, true, false, cond, List, [], ◌∷◌, ◌++◌, length, map, filter, drop, get_or, Option, Some, None, Bor}
use Rattle.std.proofs.Common.{slice_get, ap, append-nil, append_assoc, arith, length-append, refl, sym, ◌∙◌, ◌<◌}
use Rattle.std.specs.List.{cons_option}
use Rattle.std.specs.Option.{option_map}
use Rattle.std.specs.Slice.{IsItemAt}
use Rattle.std.proofs.lemmas.List.{drop_more, length-map, map-append}
use Rattle.std.proofs.lemmas.Option.{slice_get-map}
use Rattle.pam_conf.specs.Files.{Folder, Named}
use Rattle.pam_conf.specs.inner.ByKind.{Indices, index_for, indices_for, indices_from, indices_of, picked, with_index}
use Rattle.pam_conf.specs.inner.FileRules.{file_text, files_read}
use Rattle.pam_conf.specs.inner.FilesRead.{IsIndexed, file_view, kind_rules}
use Rattle.pam_conf.specs.inner.Kept.{kept_view}
use Rattle.pam_conf.specs.Rule.{RuleText}
use Rattle.pam_conf.specs.Walk.{is_of_kind}
use Rattle.pam_conf.specs.declared.kept.KeptRule.{KeptRule}
use Rattle.pam_conf.specs.declared.rule.Form.{Form}
use Rattle.pam_conf.specs.declared.rule.Kind.{Kind}
use Rattle.pam_conf.specs.declared.rule.Kind.TheVariants.{Auth, Account, Password, Session}
use Rattle.pam_conf.specs.declared.rule_files.FileRules.{FileRules}
use Rattle.pam_conf.proofs.FileFaults.{file_lent, lent}

-- ONE MORE RULE

indices-append : (first : ℕ) (kind : Kind) (rules : List RuleText) (rule : RuleText) (n : ℕ) → n ≡ first + length rules →
    indices_from first kind (rules ++ rule ∷ []) ≡ indices_from first kind rules ++ index_for kind rule n
indices-append first kind [] rule n is =
    let same : first ≡ n = omega (arith, is) in
    append-nil (index_for kind rule first) ∙ ap (index_for kind rule) same
indices-append first kind (r ∷ rules) rule n is =
    let next : n ≡ first + 1 + length rules = omega (arith, is) in
    ap (λ l. index_for kind r first ++ l) (indices-append (first + 1) kind rules rule n next)
    ∙ sym (append_assoc (index_for kind r first) (indices_from (first + 1) kind rules) (index_for kind rule n))

index-added : (rules : List RuleText) (rule : RuleText) (n : ℕ) → n ≡ length rules → with_index rule n (indices_of rules) ≡ indices_of (rules ++ rule ∷ [])
unfolding indices_of
index-added rules rule n is =
    let first : n ≡ 0 + length rules = omega (arith, is) in
    sym (rw (
      indices-append 0 Auth rules rule n first,
      indices-append 0 Account rules rule n first,
      indices-append 0 Password rules rule n first,
      indices-append 0 Session rules rule n first,
    ) refl)

-- the indices of rules stay so when one is appended
pub rule-taken : (old new : Indices) (rules newer : List KeptRule) (rule : KeptRule) (n : ℕ) → new ≡ with_index (kept_view rule) n old →
    newer ≡ rules ++ rule ∷ [] → n ≡ length rules → old ≡ indices_of (map kept_view rules) → new ≡ indices_of (map kept_view newer)
rule-taken old new rules newer rule n added is count before =
    added
    ∙ ap (with_index (kept_view rule) n) before
    ∙ index-added (map kept_view rules) (kept_view rule) n (count ∙ sym (length-map rules kept_view))
    ∙ ap indices_of (sym (map-append kept_view rules (rule ∷ [])))
    ∙ ap (λ (l : List KeptRule). indices_of (map kept_view l)) (sym is)

-- THE RULES AT THE INDICES

get_behind : (front : List RuleText) (rule : RuleText) (rules : List RuleText) → slice_get (front ++ rule ∷ rules) (length front) ≡ Some rule
get_behind [] rule rules = refl
get_behind (x ∷ front) rule rules = get_behind front rule rules

picked_from : (kind : Kind) (front rules : List RuleText) → picked (front ++ rules) (indices_from (length front) kind rules) ≡ filter (is_of_kind kind) rules
picked_from kind front [] = refl
picked_from kind front (rule ∷ rules) =
    let rest = indices_from (length front + 1) kind rules in
    let longer = length-append front (rule ∷ []) in
    let next : picked (front ++ rule ∷ rules) (indices_from (length front + 1) kind rules) ≡ filter (is_of_kind kind) rules =
    ap (λ n. picked (front ++ rule ∷ rules) (indices_from n kind rules)) (sym longer)
    ∙ ap (λ l. picked l (indices_from (length (front ++ rule ∷ [])) kind rules)) (sym (append_assoc front (rule ∷ []) rules))
    ∙ picked_from kind (front ++ rule ∷ []) rules in
    elim (is_of_kind kind rule) as (λ (t : Bool). picked (front ++ rule ∷ rules) (cond t (length front ∷ []) [] ++ rest)
    ≡ cond t (rule ∷ filter (is_of_kind kind) rules) (filter (is_of_kind kind) rules)) [
      | true ↦ ap (λ o. cons_option o (picked (front ++ rule ∷ rules) rest)) (get_behind front rule rules) ∙ ap (λ l. rule ∷ l) next
      | false ↦ next
    ]

indices_for-of : (kind : Kind) (rules : List RuleText) → indices_for kind (indices_of rules) ≡ indices_from 0 kind rules
unfolding indices_of
indices_for-of Auth rules = refl
indices_for-of Account rules = refl
indices_for-of Password rules = refl
indices_for-of Session rules = refl

-- those at the indices for a kind are those of the kind
pub kind-picked : (kind : Kind) (f : FileRules) → IsIndexed f → kind_rules kind f ≡ filter (is_of_kind kind) (map kept_view f.rules.items)
kind-picked kind f is =
    let rules : List RuleText = map kept_view f.rules.items in
    ap (λ (indices : Indices). picked rules (indices_for kind indices)) is
    ∙ ap (picked rules) (indices_for-of kind rules)
    ∙ picked_from kind [] rules

-- one index after another: the rule there, if there is one, and those at the others
pub picked-more : (rules : List RuleText) (indices : List ℕ) (n : ℕ) → n < length indices →
    picked rules (drop n indices) ≡ cons_option (slice_get rules (get_or indices n 0)) (picked rules (drop (n + 1) indices))
picked-more rules indices n within = ap (picked rules) (drop_more indices n 0 within)

-- what is lent of the rules at an index
pub rule-lent : (rules slice : List KeptRule) (index : ℕ) (found : Option (Bor KeptRule)) → slice ≡ rules → IsItemAt slice index found →
    slice_get (map kept_view rules) index ≡ option_map (λ rule. kept_view rule.now) found
rule-lent rules slice index found same lends =
    slice_get-map kept_view rules index
    ∙ ap (option_map kept_view) (ap (λ (l : List KeptRule). slice_get l index) (sym same) ∙ sym (lent slice index found lends))
    ∙ both found
  where
    both : (o : Option (Bor KeptRule)) → option_map kept_view (option_map (λ b. b.now) o) ≡ option_map (λ rule. kept_view rule.now) o
    both None = refl
    both (Some rule) = refl

-- A FILE AS IT WAS READ

indexed_text : (form : Form) (o : Option Named) (f : FileRules) → Some (file_view f) ≡ option_map (file_text form) o → IsIndexed f
indexed_text form None f is = absurd (cc)
indexed_text form (Some entry) f is =
    let same : file_view f ≡ file_text form entry = cc in
    ap (λ t. t.by_kind) same ∙ ap (λ t. indices_of t.rules) (sym same)

pub indexed-lent : (folder seen : Folder) (files slice : List FileRules) (position : ℕ) (file : Bor FileRules) → folder ≡ seen → slice ≡ files →
    IsItemAt slice position (Some file) → map file_view files ≡ files_read folder → IsIndexed file.now
indexed-lent folder seen files slice position file is same lends read =
    indexed_text seen.form (slice_get seen.entries position) file.now (file_lent folder seen files slice position file is same lends read)
