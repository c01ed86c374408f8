-- The list of a file has the items of its walk.
use Rattle.std.proofs.Common.{◌≡◌, ◌-◌, ℕ, zero, suc, Bool, true, false, cond, eqb, List, [], ◌∷◌, ◌++◌, Option, Some, None, Result, Ok, Err, ap, refl, sym}
use Rattle.std.proofs.Common.{◌∙◌, ◌&&◌, ◌+◌, map, subst}
use Rattle.std.specs.List.{list_any}
use Rattle.std.specs.Option.{unwrap_or}
use Rattle.std.proofs.lemmas.List.{map-append}
use Rattle.pam_conf.specs.FileRules.{good_rules}
use Rattle.pam_conf.specs.Files.{Folder, bytes_at, position_of}
use Rattle.pam_conf.specs.Laws.{ListIsOfWalk, Unfailed, items_listed, listed_item}
use Rattle.pam_conf.specs.Listed.{Further, body_listed, file_listed, included, rule_listed, rules_listed}
use Rattle.pam_conf.specs.Rule.{RuleText, RuleBody, Module, Include, Sub}
use Rattle.pam_conf.specs.Stack.{Items, End, ThenModule, ThenSub, joined, module_count}
use Rattle.pam_conf.specs.Survey.{good_at, survey_from}
use Rattle.pam_conf.specs.Walk.{Walk, Deeper, nothing, walk, target_walk, include_walk, sub_walk, body_walk}
use Rattle.pam_conf.specs.Walk.{is_of_kind, numbered, rule_walk, rules_walk}
use Rattle.pam_conf.specs.declared.error.FaultKind.{FaultKind}
use Rattle.pam_conf.specs.declared.error.FaultKind.TheVariants.{Cycle, TooDeep}
use Rattle.pam_conf.specs.declared.rule.Kind.{Kind}
use Rattle.pam_conf.specs.declared.trail.TheConstants.{MAX_OPEN_FILES}
use Rattle.pam_conf.specs.declared.walk.Location.{Location}
use Rattle.pam_conf.proofs.SameWalks.{unfailed_parts}
use Rattle.pam_conf.proofs.SoundSurveys.{none-fine, told-none}

items_joined : (one other : Items) → items_listed (joined one other) ≡ items_listed one ++ items_listed other
items_joined End other = refl
items_joined (ThenModule m rest) other = ap (λ l. record { file = m.file; line = m.line; control = Some m.control } ∷ l) (items_joined rest other)
items_joined (ThenSub s inner rest) other = ap (λ l. record { file = s.file; line = s.line; control = None } ∷ l) (items_joined rest other)

and-true : (b : Bool) → (b && true) ≡ b
and-true true = refl
and-true false = refl

module _ (folder : Folder) (kind : Kind) where
  abbrev Agree : Deeper → Further → Type 0
  Agree None None = Unit {0}
  Agree (Some v) (Some l) = (trail : List ℕ) (includes : List Location) (file : ℕ) → Unfailed (v trail file).events →
      items_listed (v trail file).items ≡ map listed_item (l includes file)
  Agree None (Some l) = ⊥
  Agree (Some v) None = ⊥

  target-same : (d : Deeper) (l : Further) (trail : List ℕ) (includes : List Location) (file line : ℕ) (o : Option ℕ) → Agree d l →
      Unfailed (include_walk file line (target_walk d trail o)).events →
      items_listed (include_walk file line (target_walk d trail o)).items ≡ map listed_item (included folder kind l includes o)
  target-same d l trail includes file line None a h = absurd h
  target-same None (Some l) trail includes file line (Some p) a h = absurd a
  target-same (Some v) None trail includes file line (Some p) a h = absurd a
  target-same None None trail includes file line (Some p) a h =
      elim (list_any (λ q. eqb q p) trail) as (λ (t : Bool). Unfailed (include_walk file line (cond t (Err Cycle) (Err TooDeep))).events →
      items_listed (include_walk file line (cond t (Err Cycle) (Err TooDeep))).items ≡ []) [ true ↦ λ g. absurd g | false ↦ λ g. absurd g ] h
  target-same (Some v) (Some l) trail includes file line (Some p) a h =
      elim (list_any (λ q. eqb q p) trail) as (λ (t : Bool).
      Unfailed (include_walk file line (cond t (Err Cycle) (Ok (p, v (trail ++ p ∷ []) p)))).events →
      items_listed (include_walk file line (cond t (Err Cycle) (Ok (p, v (trail ++ p ∷ []) p)))).items ≡ map listed_item (l includes p))
      [ true ↦ λ g. absurd g | false ↦ λ g. a (trail ++ p ∷ []) includes p g ] h

  sub-same : (file line : ℕ) (found : Result (ℕ × Walk) FaultKind) → Unfailed (sub_walk file line found).events →
      items_listed (sub_walk file line found).items ≡ record { file = file; line = line; control = None } ∷ []
  sub-same file line (Err fault) h = absurd h
  sub-same file line (Ok t) h = refl

  module _ (d : Deeper) (l : Further) (a : Agree d l) (trail : List ℕ) (includes : List Location) (file : ℕ) where
    abbrev walked : List RuleText → Walk
    walked rules = rules_walk folder (good_at folder) kind None d trail file rules

    body-same : (rule : RuleText) (body : RuleBody) → Unfailed (body_walk folder (good_at folder) kind None d trail file rule body).events →
        items_listed (body_walk folder (good_at folder) kind None d trail file rule body).items
        ≡ map listed_item (body_listed folder kind l includes file rule.line body)
    body-same rule (Module control path arguments) h = refl
    body-same rule (Sub target) h = sub-same file rule.line (target_walk d trail (position_of target folder.entries)) h
    body-same rule (Include target) h =
        target-same d l trail (includes ++ record { file = file; line = rule.line } ∷ []) file rule.line (position_of target folder.entries) a h

    rule-same : (rule : RuleText) → Unfailed (rule_walk folder (good_at folder) kind None d trail file rule).events →
        items_listed (rule_walk folder (good_at folder) kind None d trail file rule).items ≡ map listed_item (rule_listed folder kind l includes file rule)
    rule-same rule h =
        ap (λ (t : Bool). items_listed (cond t (body_walk folder (good_at folder) kind None d trail file rule rule.body) nothing).items)
        (and-true (is_of_kind kind rule))
        ∙ by (is_of_kind kind rule) (counted h)
      where
        body : Walk
        body = body_walk folder (good_at folder) kind None d trail file rule rule.body

        counted : Unfailed (cond (is_of_kind kind rule && true) body nothing).events → Unfailed (cond (is_of_kind kind rule) body nothing).events
        counted g = subst (λ (t : Bool). Unfailed (cond t body nothing).events) (and-true (is_of_kind kind rule)) g

        by : (t : Bool) → Unfailed (cond t body nothing).events →
            items_listed (cond t body nothing).items ≡ map listed_item (cond t (body_listed folder kind l includes file rule.line rule.body) [])
        by true g = body-same rule rule.body g
        by false g = refl

    rules-same : (rules : List RuleText) → Unfailed (walked rules).events →
        items_listed (walked rules).items ≡ map listed_item (rules_listed folder kind l includes file rules)
    rules-same [] h = refl
    rules-same (rule ∷ rules) h =
        let first = rule_walk folder (good_at folder) kind None d trail file rule in
        let parts = unfailed_parts first.events (walked rules).events h in
        items_joined first.items (walked rules).items
        ∙ ap (λ x. x ++ items_listed (walked rules).items) (rule-same rule parts.0)
        ∙ ap (λ x. map listed_item (rule_listed folder kind l includes file rule) ++ x) (rules-same rules parts.1)
        ∙ sym (map-append listed_item (rule_listed folder kind l includes file rule) (rules_listed folder kind l includes file rules))

  list-same : (room : ℕ) (trail : List ℕ) (includes : List Location) (file : ℕ) →
      Unfailed (walk folder (good_at folder) kind None room trail file).events →
      items_listed (walk folder (good_at folder) kind None room trail file).items ≡ map listed_item (file_listed folder kind room includes file)
  unfolding walk file_listed
  list-same zero trail includes file h =
      rules-same None None tt trail includes file (good_rules folder.form (unwrap_or (bytes_at file folder.entries) [])) h
  list-same (suc room) trail includes file h =
      rules-same (Some (walk folder (good_at folder) kind None room)) (Some (file_listed folder kind room)) (list-same room) trail includes file
      (good_rules folder.form (unwrap_or (bytes_at file folder.entries) [])) h

-- numbers do not count
items_numbered : (first : ℕ) (items : Items) → items_listed (numbered first items) ≡ items_listed items
items_numbered first End = refl
items_numbered first (ThenModule m rest) = ap (λ l. record { file = m.file; line = m.line; control = Some m.control } ∷ l) (items_numbered (first + 1) rest)
items_numbered first (ThenSub s inner rest) =
    ap (λ l. record { file = s.file; line = s.line; control = None } ∷ l) (items_numbered (first + module_count inner) rest)

pub list-walk : ListIsOfWalk
unfolding survey_from
list-walk folder kind file items faultless some =
    let w = walk folder (good_at folder) kind None (MAX_OPEN_FILES - 1) (file ∷ []) file in
    let fine = none-fine 0 0 w.events (told-none 0 0 w.events faultless) in
    let is : Some (numbered 1 w.items) ≡ Some items = subst (λ (b : Bool). cond b None (Some (numbered 1 w.items)) ≡ Some items) fine.2 some in
    let same : numbered 1 w.items ≡ items = cc in
    ap items_listed (sym same) ∙ items_numbered 1 w.items ∙ list-same folder kind (MAX_OPEN_FILES - 1) (file ∷ []) [] file fine.0
