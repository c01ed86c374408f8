use Rattle.std.proofs.Common.{◌≡◌, ◌≤◌, ◌<◌, ◌+◌, ◌-◌, ◌↔◌, ℕ, suc, Bool, true, false, cond, eqb, List, [], ◌∷◌, ◌++◌, length, Option, Some, None, Result, Ok}
use Rattle.std.proofs.Common.{Err, ap, refl, ◌∙◌, arith, length-append}
use Rattle.std.specs.List.{list_any}
use Rattle.std.proofs.Math.Dec.{ltb}
use Rattle.std.proofs.lemmas.Bool.{ltb-true, ltb-false}
use Rattle.pam_conf.specs.Files.{Folder, position_of}
use Rattle.pam_conf.specs.Laws.{trail_walk, one_more}
use Rattle.pam_conf.specs.Rule.{RuleText, RuleBody, Module, Include, Sub}
use Rattle.pam_conf.specs.Walk.{Reads, Walk, Deeper, walk, deeper, nothing, ◌then◌, target_walk, include_walk, sub_walk, body_walk, rule_walk}
use Rattle.pam_conf.specs.Walk.{rules_walk, read_walk}
use Rattle.pam_conf.specs.Walk.{file_walk, counts}
use Rattle.pam_conf.specs.declared.error.FaultKind.{FaultKind}
use Rattle.pam_conf.specs.declared.error.FaultKind.TheVariants.{Cycle, TooDeep}
use Rattle.pam_conf.specs.declared.error.RuleFault.{RuleFault}
use Rattle.pam_conf.specs.declared.rule.Kind.{Kind}
use Rattle.pam_conf.specs.declared.trail.TheConstants.{MAX_OPEN_FILES}
use Rattle.pam_conf.proofs.WalkLemmas.{walk-file}

module _ (folder : Folder) (reads : Reads) (kind : Kind) (service : Option (List ℕ)) where
  -- two ways to walk the targets that are the same with one more file open
  module _ (trail : List ℕ) (v w : List ℕ → ℕ → Walk) (same : (p : ℕ) → v (trail ++ p ∷ []) p ≡ w (trail ++ p ∷ []) p) (file : ℕ) where
    target-same : (o : Option ℕ) → target_walk (Some v) trail o ≡ target_walk (Some w) trail o
    target-same None = refl
    target-same (Some p) = ap (λ (x : Walk). cond (list_any (λ q. eqb q p) trail) (Err Cycle) (Ok (p, x))) (same p)

    body-same : (r : RuleText) (b : RuleBody) →
        body_walk folder reads kind service (Some v) trail file r b ≡ body_walk folder reads kind service (Some w) trail file r b
    body-same r (Module control path arguments) = refl
    body-same r (Include target) = ap (include_walk file r.line) (target-same (position_of target folder.entries))
    body-same r (Sub target) = ap (sub_walk file r.line) (target-same (position_of target folder.entries))

    rule-same : (r : RuleText) → rule_walk folder reads kind service (Some v) trail file r ≡ rule_walk folder reads kind service (Some w) trail file r
    rule-same r = ap (λ (x : Walk). cond (counts kind service r) x nothing) (body-same r r.body)

    rules-same : (rules : List RuleText) →
        rules_walk folder reads kind service (Some v) trail file rules ≡ rules_walk folder reads kind service (Some w) trail file rules
    rules-same [] = refl
    rules-same (r ∷ rules) =
        ap (λ (x : Walk). x then rules_walk folder reads kind service (Some v) trail file rules) (rule-same r)
        ∙ ap (λ (x : Walk). rule_walk folder reads kind service (Some w) trail file r then x) (rules-same rules)

    read-same : (read : Result (List RuleText) RuleFault) →
        read_walk folder reads kind service (Some v) trail file read ≡ read_walk folder reads kind service (Some w) trail file read
    read-same (Err fault) = refl
    read-same (Ok rules) = rules-same rules

    pub file-same : file_walk folder reads kind service (Some v) trail file ≡ file_walk folder reads kind service (Some w) trail file
    file-same = read-same (reads file)

  -- the walk of an open file with this walk of its targets
  abbrev walked : List ℕ → ℕ → Deeper → Walk
  walked trail file targets = file_walk folder reads kind service targets trail file

  -- the walk of the targets, with the room that the trail leaves
  abbrev left : List ℕ → Deeper
  left trail = deeper folder reads kind service (MAX_OPEN_FILES - length trail)

  room-left : (trail : List ℕ) (file : ℕ) → ltb (length trail) MAX_OPEN_FILES ≡ true →
      walked trail file (left trail) ≡ walked trail file (Some (trail_walk folder reads kind service))
  room-left trail file less =
      let few : length trail < MAX_OPEN_FILES = ltb-true (length trail) MAX_OPEN_FILES less in
      let room : MAX_OPEN_FILES - length trail ≡ suc (MAX_OPEN_FILES - (length trail + 1)) = omega (arith, few) in
      ap (λ (n : ℕ). file_walk folder reads kind service (deeper folder reads kind service n) trail file) room
      ∙ file-same trail (walk folder reads kind service (MAX_OPEN_FILES - (length trail + 1))) (trail_walk folder reads kind service)
      (λ p. let longer : MAX_OPEN_FILES - (length trail + 1) ≡ MAX_OPEN_FILES - length (trail ++ p ∷ []) = omega (arith, length-append trail (p ∷ [])) in
      ap (λ (n : ℕ). walk folder reads kind service n (trail ++ p ∷ []) p) longer) file

  room-none : (trail : List ℕ) (file : ℕ) → ltb (length trail) MAX_OPEN_FILES ≡ false → walked trail file (left trail) ≡ walked trail file None
  room-none trail file full =
      let many : MAX_OPEN_FILES ≤ length trail = ltb-false (length trail) MAX_OPEN_FILES full in
      let room : MAX_OPEN_FILES - length trail ≡ 0 = omega (arith, many) in
      ap (λ (n : ℕ). file_walk folder reads kind service (deeper folder reads kind service n) trail file) room

  pub trail-followed : (trail : List ℕ) (file : ℕ) →
      trail_walk folder reads kind service trail file ≡ file_walk folder reads kind service (one_more folder reads kind service trail) trail file
  trail-followed trail file =
      walk-file folder reads kind service (MAX_OPEN_FILES - length trail) trail file
      ∙ elim (ltb (length trail) MAX_OPEN_FILES) as (λ (t : Bool). ltb (length trail) MAX_OPEN_FILES ≡ t →
      walked trail file (left trail) ≡ walked trail file (cond t (Some (trail_walk folder reads kind service)) None)) [
        | true ↦ room-left trail file
        | false ↦ room-none trail file
      ] refl

  abbrev aimed : List ℕ → ℕ → Bool → Result (ℕ × Walk) FaultKind
  aimed trail target few = target_walk (cond few (Some (trail_walk folder reads kind service)) None) trail (Some target)

  aimed-few : (trail : List ℕ) (target : ℕ) → list_any (λ p. eqb p target) trail ≡ false →
      aimed trail target true ≡ Ok (target, trail_walk folder reads kind service (trail ++ target ∷ []) target)
  aimed-few trail target absent = rw absent refl

  aimed-full : (trail : List ℕ) (target : ℕ) → list_any (λ p. eqb p target) trail ≡ false → aimed trail target false ≡ Err TooDeep
  aimed-full trail target absent = rw absent refl

  pub deep-full : (trail : List ℕ) (target : ℕ) → list_any (λ p. eqb p target) trail ≡ false →
      (target_walk (one_more folder reads kind service trail) trail (Some target) ≡ Err TooDeep) ↔ (MAX_OPEN_FILES ≤ length trail)
  deep-full trail target absent = elim (ltb (length trail) MAX_OPEN_FILES) as
      (λ (t : Bool). ltb (length trail) MAX_OPEN_FILES ≡ t → (aimed trail target t ≡ Err TooDeep) ↔ (MAX_OPEN_FILES ≤ length trail)) [
        | true ↦ λ less.
            let few : length trail < MAX_OPEN_FILES = ltb-true (length trail) MAX_OPEN_FILES less in
            let found = aimed-few trail target absent in
            (λ deep. absurd (cc), λ many. absurd (omega (arith, few, many)))
        | false ↦ λ full. (λ deep. ltb-false (length trail) MAX_OPEN_FILES full, λ many. aimed-full trail target absent)
      ] refl
