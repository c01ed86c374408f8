-- Walks that read the same of each file that they reach are the same; a walk without a fault reaches files without faults.
use Rattle.std.proofs.Common.{◌≡◌, ℕ, zero, suc, Bool, true, false, cond, eqb, List, [], ◌∷◌, ◌++◌, Option, Some, None, Result, Ok, Err, ap, refl, sym, subst}
use Rattle.std.proofs.Common.{◌∙◌}
use Rattle.std.specs.List.{AllByRecursion as Each, list_any}
use Rattle.std.specs.Option.{unwrap_or}
use Rattle.pam_conf.specs.FileRules.{good_rules, unless_faulty}
use Rattle.pam_conf.specs.Files.{Folder, bytes_at, position_of}
use Rattle.pam_conf.specs.Laws.{Unfailed}
use Rattle.pam_conf.specs.Rule.{RuleText, RuleBody, Module, Include, Sub}
use Rattle.pam_conf.specs.Survey.{faults_at, good_at}
use Rattle.pam_conf.specs.Walk.{Walk, Event, Met, Followed, Failed, Deeper, Reads, ◌then◌, nothing, walk, target_walk, include_walk, sub_walk, body_walk}
use Rattle.pam_conf.specs.Walk.{rule_walk, rules_walk, read_walk, file_walk, rules_at, counts}
use Rattle.pam_conf.specs.declared.error.FaultKind.{FaultKind}
use Rattle.pam_conf.specs.declared.error.FaultKind.TheVariants.{Cycle, TooDeep}
use Rattle.pam_conf.specs.declared.error.RuleFault.{RuleFault}
use Rattle.pam_conf.specs.declared.rule.Kind.{Kind}
use Rattle.pam_conf.proofs.FileFaults.{first_fault}

-- the files that events follow
abbrev pub targets_of : List Event → List ℕ
targets_of [] = []
targets_of (Met file line ∷ events) = targets_of events
targets_of (Followed file line target ∷ events) = target ∷ targets_of events
targets_of (Failed fault ∷ events) = targets_of events

targets_of-append : (xs ys : List Event) → targets_of (xs ++ ys) ≡ targets_of xs ++ targets_of ys
targets_of-append [] ys = refl
targets_of-append (Met file line ∷ xs) ys = targets_of-append xs ys
targets_of-append (Followed file line target ∷ xs) ys = ap (λ ts. target ∷ ts) (targets_of-append xs ys)
targets_of-append (Failed fault ∷ xs) ys = targets_of-append xs ys

pub each_parts : (P : ℕ → Type 0) (xs ys : List ℕ) → Each P (xs ++ ys) → Each P xs × Each P ys
each_parts P [] ys h = (tt, h)
each_parts P (x ∷ xs) ys h = let p = each_parts P xs ys h.1 in ((h.0, p.0), p.1)

pub each_both : (P : ℕ → Type 0) (xs ys : List ℕ) → Each P xs → Each P ys → Each P (xs ++ ys)
each_both P [] ys h k = k
each_both P (x ∷ xs) ys h k = (h.0, each_both P xs ys h.1 k)

pub each_map : (P Q : ℕ → Type 0) → ((x : ℕ) → P x → Q x) → (xs : List ℕ) → Each P xs → Each Q xs
each_map P Q f [] h = tt
each_map P Q f (x ∷ xs) h = (f x h.0, each_map P Q f xs h.1)

-- the target that is found, and those that it follows
abbrev found_targets : Result (ℕ × Walk) FaultKind → List ℕ
found_targets (Err kind) = []
found_targets (Ok t) = t.0 ∷ targets_of t.1.events

include_targets : (file line : ℕ) (found : Result (ℕ × Walk) FaultKind) → targets_of (include_walk file line found).events ≡ found_targets found
include_targets file line (Err kind) = refl
include_targets file line (Ok t) = refl

sub_events : (file line : ℕ) (found : Result (ℕ × Walk) FaultKind) → (sub_walk file line found).events ≡ (include_walk file line found).events
sub_events file line (Err kind) = refl
sub_events file line (Ok t) = refl

sub_targets : (file line : ℕ) (found : Result (ℕ × Walk) FaultKind) → targets_of (sub_walk file line found).events ≡ found_targets found
sub_targets file line found = ap targets_of (sub_events file line found) ∙ include_targets file line found

-- TWO WALKS

module _ (folder : Folder) (reads others : Reads) (kind : Kind) (service : Option (List ℕ)) where
  abbrev pub Same : ℕ → Type 0
  Same file = reads file ≡ others file

  abbrev Agree : Deeper → Deeper → Type 0
  Agree None None = Unit {0}
  Agree (Some v) (Some w) = (trail : List ℕ) (file : ℕ) → Same file → Each Same (targets_of (v trail file).events) → v trail file ≡ w trail file
  Agree None (Some w) = ⊥
  Agree (Some v) None = ⊥

  -- what is found for a target, which is open or not
  abbrev aim : (List ℕ → ℕ → Walk) → List ℕ → ℕ → Bool → Result (ℕ × Walk) FaultKind
  aim v trail p open_already = cond open_already (Err Cycle) (Ok (p, v (trail ++ p ∷ []) p))

  target-agree : (d e : Deeper) (trail : List ℕ) (o : Option ℕ) → Agree d e → Each Same (found_targets (target_walk d trail o)) →
      target_walk d trail o ≡ target_walk e trail o
  target-agree d e trail None a h = refl
  target-agree None None trail (Some p) a h = refl
  target-agree None (Some w) trail (Some p) a h = absurd a
  target-agree (Some v) None trail (Some p) a h = absurd a
  target-agree (Some v) (Some w) trail (Some p) a h =
      elim (list_any (λ q. eqb q p) trail) as (λ (t : Bool). Each Same (found_targets (aim v trail p t)) → aim v trail p t ≡ aim w trail p t) [
        | true ↦ λ g. refl
        | false ↦ λ g. ap (λ (x : Walk). Ok (p, x)) (a (trail ++ p ∷ []) p g.0 g.1)
      ] h

  module _ (d e : Deeper) (a : Agree d e) (trail : List ℕ) (file : ℕ) where
    body-agree : (r : RuleText) (b : RuleBody) → Each Same (targets_of (body_walk folder reads kind service d trail file r b).events) →
        body_walk folder reads kind service d trail file r b ≡ body_walk folder others kind service e trail file r b
    body-agree r (Module control path arguments) h = refl
    body-agree r (Include target) h =
        let found = target_walk d trail (position_of target folder.entries) in
        ap (include_walk file r.line) (target-agree d e trail (position_of target folder.entries) a (subst (Each Same) (include_targets file r.line found) h))
    body-agree r (Sub target) h =
        let found = target_walk d trail (position_of target folder.entries) in
        ap (sub_walk file r.line) (target-agree d e trail (position_of target folder.entries) a (subst (Each Same) (sub_targets file r.line found) h))

    rule-agree : (r : RuleText) → Each Same (targets_of (rule_walk folder reads kind service d trail file r).events) →
        rule_walk folder reads kind service d trail file r ≡ rule_walk folder others kind service e trail file r
    rule-agree r h =
        elim (counts kind service r) as (λ (t : Bool).
        Each Same (targets_of (cond t (body_walk folder reads kind service d trail file r r.body) nothing).events) →
        cond t (body_walk folder reads kind service d trail file r r.body) nothing
        ≡ cond t (body_walk folder others kind service e trail file r r.body) nothing) [ true ↦ body-agree r r.body | false ↦ λ g. refl ] h

    rules-agree : (rules : List RuleText) → Each Same (targets_of (rules_walk folder reads kind service d trail file rules).events) →
        rules_walk folder reads kind service d trail file rules ≡ rules_walk folder others kind service e trail file rules
    rules-agree [] h = refl
    rules-agree (r ∷ rules) h =
        let first = rule_walk folder reads kind service d trail file r in
        let more = rules_walk folder reads kind service d trail file rules in
        let p = each_parts Same (targets_of first.events) (targets_of more.events)
        (subst (Each Same) (targets_of-append first.events more.events) h) in
        ap (λ (x : Walk). x then more) (rule-agree r p.0)
        ∙ ap (λ (x : Walk). rule_walk folder others kind service e trail file r then x) (rules-agree rules p.1)

    read-agree : (r : Result (List RuleText) RuleFault) → Each Same (targets_of (read_walk folder reads kind service d trail file r).events) →
        read_walk folder reads kind service d trail file r ≡ read_walk folder others kind service e trail file r
    read-agree (Err fault) h = refl
    read-agree (Ok rules) h = rules-agree rules h

    file-agree : Same file → Each Same (targets_of (file_walk folder reads kind service d trail file).events) →
        file_walk folder reads kind service d trail file ≡ file_walk folder others kind service e trail file
    file-agree same h = read-agree (reads file) h ∙ ap (read_walk folder others kind service e trail file) same

  pub walk-agree : (room : ℕ) (trail : List ℕ) (file : ℕ) → Same file → Each Same (targets_of (walk folder reads kind service room trail file).events) →
      walk folder reads kind service room trail file ≡ walk folder others kind service room trail file
  unfolding walk
  walk-agree zero trail file same h = file-agree None None tt trail file same h
  walk-agree (suc room) trail file same h =
      file-agree (Some (walk folder reads kind service room)) (Some (walk folder others kind service room)) (walk-agree room) trail file same h

-- A WALK WITHOUT A FAULT

pub unfailed_parts : (xs ys : List Event) → Unfailed (xs ++ ys) → Unfailed xs × Unfailed ys
unfailed_parts [] ys h = (tt, h)
unfailed_parts (Met file line ∷ xs) ys h = unfailed_parts xs ys h
unfailed_parts (Followed file line target ∷ xs) ys h = unfailed_parts xs ys h
unfailed_parts (Failed fault ∷ xs) ys h = absurd h

module _ (folder : Folder) where
  abbrev pub Sound : ℕ → Type 0
  Sound file = faults_at folder file ≡ []

  -- a file without faults of its own has the rules of its lines
  pub sound-reads : (file : ℕ) → Sound file → rules_at folder file ≡ good_at folder file
  sound-reads file sound =
      let bytes = unwrap_or (bytes_at file folder.entries) [] in
      first_fault folder.form bytes ∙ ap (λ faults. unless_faulty faults (good_rules folder.form bytes)) sound

  unfaulty : (faults : List RuleFault) (good rules : List RuleText) → unless_faulty faults good ≡ Ok rules → faults ≡ []
  unfaulty [] good rules h = refl
  unfaulty (fault ∷ faults) good rules h = absurd (cc)

  pub reads-sound : (file : ℕ) (rules : List RuleText) → rules_at folder file ≡ Ok rules → Sound file
  reads-sound file rules h =
      let bytes = unwrap_or (bytes_at file folder.entries) [] in
      unfaulty (faults_at folder file) (good_rules folder.form bytes) rules (sym (first_fault folder.form bytes) ∙ h)

  module _ (kind : Kind) (service : Option (List ℕ)) where
    abbrev SoundDeep : Deeper → Type 0
    SoundDeep None = Unit {0}
    SoundDeep (Some v) = (trail : List ℕ) (file : ℕ) → Unfailed (v trail file).events → Sound file × Each Sound (targets_of (v trail file).events)

    target-sound : (d : Deeper) (trail : List ℕ) (file line : ℕ) (o : Option ℕ) → SoundDeep d →
        Unfailed (include_walk file line (target_walk d trail o)).events → Each Sound (found_targets (target_walk d trail o))
    target-sound d trail file line None s h = absurd h
    target-sound None trail file line (Some p) s h =
        elim (list_any (λ q. eqb q p) trail) as (λ (t : Bool). Unfailed (include_walk file line (cond t (Err Cycle) (Err TooDeep))).events →
        Each Sound (found_targets (cond t (Err Cycle) (Err TooDeep)))) [ true ↦ λ g. absurd g | false ↦ λ g. absurd g ] h
    target-sound (Some v) trail file line (Some p) s h =
        elim (list_any (λ q. eqb q p) trail) as (λ (t : Bool).
        Unfailed (include_walk file line (cond t (Err Cycle) (Ok (p, v (trail ++ p ∷ []) p)))).events →
        Each Sound (found_targets (cond t (Err Cycle) (Ok (p, v (trail ++ p ∷ []) p))))) [ true ↦ λ g. absurd g | false ↦ λ g. s (trail ++ p ∷ []) p g ] h

    module _ (d : Deeper) (s : SoundDeep d) (trail : List ℕ) (file : ℕ) where
      body-sound : (r : RuleText) (b : RuleBody) → Unfailed (body_walk folder (rules_at folder) kind service d trail file r b).events →
          Each Sound (targets_of (body_walk folder (rules_at folder) kind service d trail file r b).events)
      body-sound r (Module control path arguments) h = tt
      body-sound r (Include target) h =
          let found = target_walk d trail (position_of target folder.entries) in
          subst (Each Sound) (sym (include_targets file r.line found)) (target-sound d trail file r.line (position_of target folder.entries) s h)
      body-sound r (Sub target) h =
          let found = target_walk d trail (position_of target folder.entries) in
          subst (Each Sound) (sym (sub_targets file r.line found))
          (target-sound d trail file r.line (position_of target folder.entries) s (subst Unfailed (sub_events file r.line found) h))

      rules-sound : (rules : List RuleText) → Unfailed (rules_walk folder (rules_at folder) kind service d trail file rules).events →
          Each Sound (targets_of (rules_walk folder (rules_at folder) kind service d trail file rules).events)
      rules-sound [] h = tt
      rules-sound (r ∷ rules) h =
          let first = rule_walk folder (rules_at folder) kind service d trail file r in
          let more = rules_walk folder (rules_at folder) kind service d trail file rules in
          let p = unfailed_parts first.events more.events h in
          let one : Each Sound (targets_of first.events) = elim (counts kind service r) as (λ (t : Bool).
          Unfailed (cond t (body_walk folder (rules_at folder) kind service d trail file r r.body) nothing).events →
          Each Sound (targets_of (cond t (body_walk folder (rules_at folder) kind service d trail file r r.body) nothing).events))
          [ true ↦ body-sound r r.body | false ↦ λ g. tt ] p.0 in
          subst (Each Sound) (sym (targets_of-append first.events more.events))
          (each_both Sound (targets_of first.events) (targets_of more.events) one (rules-sound rules p.1))

      read-sound : (r : Result (List RuleText) RuleFault) → rules_at folder file ≡ r →
          Unfailed (read_walk folder (rules_at folder) kind service d trail file r).events →
          Sound file × Each Sound (targets_of (read_walk folder (rules_at folder) kind service d trail file r).events)
      read-sound (Err fault) is h = absurd h
      read-sound (Ok rules) is h = (reads-sound file rules is, rules-sound rules h)

    pub walk-sound : (room : ℕ) (trail : List ℕ) (file : ℕ) → Unfailed (walk folder (rules_at folder) kind service room trail file).events →
        Sound file × Each Sound (targets_of (walk folder (rules_at folder) kind service room trail file).events)
    unfolding walk
    walk-sound zero trail file h = read-sound None tt trail file (rules_at folder file) refl h
    walk-sound (suc room) trail file h =
        read-sound (Some (walk folder (rules_at folder) kind service room)) (walk-sound room) trail file (rules_at folder file) refl h
