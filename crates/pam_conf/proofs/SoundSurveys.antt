-- A service has a stack if and only if its survey is sound.
use Rattle.std.proofs.Common.{IsSome, ◌≡◌, ◌+◌, ◌-◌, ◌||◌, ℕ, Bool, true, false, cond, eqb, fold, List, [], ◌∷◌, ◌++◌, codes, map, option_and_then}
use Rattle.std.proofs.Common.{Option, Some, None}
use Rattle.std.proofs.Common.{Result, Ok, Err, ap, refl, sym, subst, ◌∙◌}
use Rattle.std.specs.Char.{to_ascii_lowercase}
use Rattle.std.specs.List.{AllByRecursion as Each, list_any}
use Rattle.std.specs.Option.{option_map_or}
use Rattle.std.proofs.lemmas.Bool.{eqb-true, false≢true}
use Rattle.std.proofs.lemmas.List.Elements.{All-from_recursion, recursion_from_All}
use Rattle.pam_conf.specs.Files.{Folder, position_of}
use Rattle.pam_conf.specs.Laws.{FaultlessHasStack, StackIsSoundSurvey, Unfailed}
use Rattle.pam_conf.specs.inner.Progress.{in_file}
use Rattle.pam_conf.specs.Resolution.{StartText, carried, from_starts, resolved, stack_from, start_in, start_of, start_read, unless_empty}
use Rattle.pam_conf.specs.Rule.{RuleText}
use Rattle.pam_conf.specs.Stack.{Items, End, ThenModule, ThenSub}
use Rattle.pam_conf.specs.Survey.{SurveyText, good_at, is_over, one_too_many, survey_from, survey_of, survey_starts, survey_unless_empty, surveyed, targets}
use Rattle.pam_conf.specs.Survey.{told, with_file}
use Rattle.pam_conf.specs.Walk.{Walk, Event, Met, Followed, Failed, fault_at, numbered, refusal, rules_at, walk}
use Rattle.pam_conf.specs.declared.conf_error.ConfError.{ConfError}
use Rattle.pam_conf.specs.declared.error.FaultKind.TheVariants.{TooManyFollowed, TooManyModules}
use Rattle.pam_conf.specs.declared.error.RuleFault.{RuleFault}
use Rattle.pam_conf.specs.declared.rule.Form.{Form}
use Rattle.pam_conf.specs.declared.rule.Form.TheVariants.{Dir, Single}
use Rattle.pam_conf.specs.declared.rule.Kind.{Kind}
use Rattle.pam_conf.specs.declared.stack.TheConstants.{MAX_MODULES}
use Rattle.pam_conf.specs.declared.trail.TheConstants.{MAX_OPEN_FILES}
use Rattle.pam_conf.specs.declared.walk.TheConstants.{MAX_FOLLOWS}
use Rattle.pam_conf.proofs.ResolutionLemmas.{faulty, start-fault}
use Rattle.pam_conf.proofs.SameWalks.{Sound, each_both, each_map, each_parts, reads-sound, sound-reads, targets_of, walk-agree, walk-sound}

-- EVENTS WITHOUT A FAULT

abbrev pub AreFine : ℕ → ℕ → List Event → Type 0
AreFine m f events = Unfailed events × (told m f events ≡ []) × (is_over m f events ≡ false) × (targets m f events ≡ targets_of events)

pub none-fine : (m f : ℕ) (events : List Event) → refusal m f events ≡ None → AreFine m f events
unfolding refusal told is_over targets
none-fine m f [] none = (tt, refl, refl, refl)
none-fine m f (Met file line ∷ events) none =
    elim (eqb m MAX_MODULES) as (λ (t : Bool). cond t (Some (fault_at file line TooManyModules)) (refusal (m + 1) f events) ≡ None →
    Unfailed events × (cond t (fault_at file line TooManyModules ∷ []) (told (m + 1) f events) ≡ [])
    × (cond t true (is_over (m + 1) f events) ≡ false) × (cond t [] (targets (m + 1) f events) ≡ targets_of events))
    [ true ↦ λ e. absurd (cc) | false ↦ λ e. none-fine (m + 1) f events e ] none
none-fine m f (Followed file line target ∷ events) none =
    elim (eqb f MAX_FOLLOWS) as (λ (t : Bool). cond t (Some (fault_at file line TooManyFollowed)) (refusal m (f + 1) events) ≡ None →
    Unfailed events × (cond t (fault_at file line TooManyFollowed ∷ []) (told m (f + 1) events) ≡ [])
    × (cond t true (is_over m (f + 1) events) ≡ false) × (cond t [] (target ∷ targets m (f + 1) events) ≡ target ∷ targets_of events)) [
      | true ↦ λ e. absurd (cc)
      | false ↦ λ e. let h = none-fine m (f + 1) events e in (h.0, h.1, h.2, ap (λ ts. target ∷ ts) h.3)
    ] none
none-fine m f (Failed fault ∷ events) none = absurd (cc)

pub told-none : (m f : ℕ) (events : List Event) → told m f events ≡ [] → refusal m f events ≡ None
unfolding refusal told
told-none m f [] none = refl
told-none m f (Met file line ∷ events) none =
    elim (eqb m MAX_MODULES) as (λ (t : Bool). cond t (fault_at file line TooManyModules ∷ []) (told (m + 1) f events) ≡ [] →
    cond t (Some (fault_at file line TooManyModules)) (refusal (m + 1) f events) ≡ None)
    [ true ↦ λ e. absurd (cc) | false ↦ λ e. told-none (m + 1) f events e ] none
told-none m f (Followed file line target ∷ events) none =
    elim (eqb f MAX_FOLLOWS) as (λ (t : Bool). cond t (fault_at file line TooManyFollowed ∷ []) (told m (f + 1) events) ≡ [] →
    cond t (Some (fault_at file line TooManyFollowed)) (refusal m (f + 1) events) ≡ None)
    [ true ↦ λ e. absurd (cc) | false ↦ λ e. told-none m (f + 1) events e ] none
told-none m f (Failed fault ∷ events) none =
    elim (eqb f MAX_FOLLOWS) as (λ (t : Bool). cond t (one_too_many fault ∷ []) (fault ∷ told m (f + 1) events) ≡ [] → Some fault ≡ None)
    [ true ↦ λ e. absurd (cc) | false ↦ λ e. absurd (cc) ] none

-- FILES, EACH ONCE

module _ (P : ℕ → Type 0) where
  there : (t : ℕ) (files : List ℕ) → list_any (λ p. eqb p t) files ≡ true → Each P files → P t
  there t [] e h = absurd (false≢true e)
  there t (x ∷ xs) e h = elim (eqb x t) as (λ (b : Bool). eqb x t ≡ b → (b || list_any (λ p. eqb p t) xs) ≡ true → P t) [
    | true ↦ λ same g. subst P (eqb-true x t same) h.0
    | false ↦ λ other g. there t xs g h.1
  ] refl e

  added : (t : ℕ) (files : List ℕ) → Each P (with_file files t) → Each P files × P t
  added t files h = elim (list_any (λ p. eqb p t) files) as (λ (b : Bool). list_any (λ p. eqb p t) files ≡ b →
      Each P (cond b files (files ++ t ∷ [])) → Each P files × P t) [
        | true ↦ λ e g. (g, there t files e g)
        | false ↦ λ e g. let q = each_parts P files (t ∷ []) g in (q.0, q.1.0)
      ] refl h

  adds : (t : ℕ) (files : List ℕ) → Each P files → P t → Each P (with_file files t)
  adds t files h p = elim (list_any (λ q. eqb q t) files) as (λ (b : Bool). Each P (cond b files (files ++ t ∷ [])))
      [ true ↦ h | false ↦ each_both P files (t ∷ []) h (p, tt) ]

  all_added : (files ts : List ℕ) → Each P (fold with_file files ts) → Each P files × Each P ts
  all_added files [] h = (h, tt)
  all_added files (t ∷ ts) h =
      let q = all_added (with_file files t) ts h in
      let r = added t files q.0 in
      (r.0, (r.1, q.1))

  adds_all : (files ts : List ℕ) → Each P files → Each P ts → Each P (fold with_file files ts)
  adds_all files [] h k = h
  adds_all files (t ∷ ts) h k = adds_all (with_file files t) ts (adds t files h k.0) k.1

-- FROM ONE START

abbrev IsClean : Folder → SurveyText → Type 0
IsClean folder s = (s.faults ≡ []) × Each (Sound folder) s.reached

module _ (folder : Folder) (kind : Kind) (start : StartText) where
  abbrev known : Walk
  known = walk folder (rules_at folder) kind start.service (MAX_OPEN_FILES - 1) (start.file ∷ []) start.file

  abbrev good : Walk
  good = walk folder (good_at folder) kind start.service (MAX_OPEN_FILES - 1) (start.file ∷ []) start.file

  ok_none : (o : Option ConfError) (items all : Items) → option_map_or Err o (Ok all) ≡ Ok items → (o ≡ None) × (all ≡ items)
  ok_none None items all h = (refl, cc)
  ok_none (Some fault) items all h = absurd (cc)

  stack-clean : (items : Items) → stack_from folder kind start ≡ Ok items →
      ((survey_from folder kind start).items ≡ Some items) × IsClean folder (survey_from folder kind start)
  unfolding stack_from survey_from
  stack-clean items h =
      let o = ok_none (refusal 0 0 known.events) items (numbered 1 known.items) h in
      let fine = none-fine 0 0 known.events o.0 in
      let sound = walk-sound folder kind start.service (MAX_OPEN_FILES - 1) (start.file ∷ []) start.file fine.0 in
      let same : known ≡ good = walk-agree folder (rules_at folder) (good_at folder) kind start.service (MAX_OPEN_FILES - 1) (start.file ∷ []) start.file
      (sound-reads folder start.file sound.0)
      (each_map (Sound folder) (λ t. rules_at folder t ≡ good_at folder t) (sound-reads folder) (targets_of known.events) sound.1) in
      subst (λ (w : Walk). ((survey_of start.file w).items ≡ Some items) × IsClean folder (survey_of start.file w)) same (
        rw fine.2 (ap Some o.1),
        (fine.1, adds_all (Sound folder) (start.file ∷ []) (targets 0 0 known.events) (sound.0, tt) (subst (Each (Sound folder)) (sym fine.3) sound.1)),
      )

  clean-stack : (items : Items) → (survey_from folder kind start).items ≡ Some items → IsClean folder (survey_from folder kind start) →
      stack_from folder kind start ≡ Ok items
  unfolding stack_from survey_from
  clean-stack items some clean =
      let none = told-none 0 0 good.events clean.0 in
      let fine = none-fine 0 0 good.events none in
      let files = all_added (Sound folder) (start.file ∷ []) (targets 0 0 good.events) clean.1 in
      let sound : Each (Sound folder) (targets_of good.events) = subst (Each (Sound folder)) fine.3 files.1 in
      let same : good ≡ known = walk-agree folder (good_at folder) (rules_at folder) kind start.service (MAX_OPEN_FILES - 1) (start.file ∷ []) start.file
      (sym (sound-reads folder start.file files.0.0))
      (each_map (Sound folder) (λ t. good_at folder t ≡ rules_at folder t) (λ t s. sym (sound-reads folder t s)) (targets_of good.events) sound) in
      let is : Some (numbered 1 good.items) ≡ Some items = subst (λ (b : Bool). cond b None (Some (numbered 1 good.items)) ≡ Some items) fine.2 some in
      subst (λ (w : Walk). option_map_or Err (refusal 0 0 w.events) (Ok (numbered 1 w.items)) ≡ Ok items) same (rw none (cc))

  -- the file of a survey is sound, if all that it reached are
  clean-first : Each (Sound folder) (survey_from folder kind start).reached → Sound folder start.file
  unfolding survey_from
  clean-first clean = (all_added (Sound folder) (start.file ∷ []) (targets 0 0 good.events) clean).0.0

-- FROM BOTH STARTS

same_some : (x y : Items) → Some x ≡ Some y → x ≡ y
same_some x y h = cc

same_ok : (x y : Items) (r : Result Items ConfError) → r ≡ Ok x → r ≡ Ok y → x ≡ y
same_ok x y r g h = cc

module _ (folder : Folder) (kind : Kind) (items : Items) where
  abbrev Gives : SurveyText → Type 0
  Gives s = (s.items ≡ Some items) × IsClean folder s

  unless-clean : (own : StartText) (other : Option StartText) (r : Result Items ConfError) → stack_from folder kind own ≡ r →
      unless_empty folder kind other r ≡ Ok items → Gives (survey_unless_empty folder kind other (survey_from folder kind own)
      (survey_from folder kind own).items)
  unless-clean own None (Err e) is h = absurd (cc)
  unless-clean own (Some o) (Err e) is h = absurd (cc)
  unless-clean own None (Ok all) is h = stack-clean folder kind own items (is ∙ h)
  unless-clean own (Some o) (Ok End) is h =
      let first = stack-clean folder kind own End is in
      let second = stack-clean folder kind o items h in
      let s = survey_from folder kind own in
      subst (λ (i : Option Items). Gives (survey_unless_empty folder kind (Some o) s i)) (sym first.0) (
        second.0,
        (
          ap (λ faults. faults ++ (survey_from folder kind o).faults) first.1.0 ∙ second.1.0,
          adds_all (Sound folder) s.reached (survey_from folder kind o).reached first.1.1 second.1.1,
        ),
      )
  unless-clean own (Some o) (Ok (ThenModule m rest)) is h =
      let first = stack-clean folder kind own items (is ∙ h) in
      subst (λ (i : Option Items). Gives (survey_unless_empty folder kind (Some o) (survey_from folder kind own) i))
      (sym (first.0 ∙ ap Some (sym (same_ok (ThenModule m rest) items (Ok (ThenModule m rest)) refl h)))) first
  unless-clean own (Some o) (Ok (ThenSub t inner rest)) is h =
      let first = stack-clean folder kind own items (is ∙ h) in
      subst (λ (i : Option Items). Gives (survey_unless_empty folder kind (Some o) (survey_from folder kind own) i))
      (sym (first.0 ∙ ap Some (sym (same_ok (ThenSub t inner rest) items (Ok (ThenSub t inner rest)) refl h)))) first

  starts-clean : (own other : Option StartText) → from_starts folder kind own other ≡ Ok items → Gives (survey_starts folder kind own other)
  starts-clean None None h = absurd (cc)
  starts-clean None (Some o) h = stack-clean folder kind o items h
  starts-clean (Some own) other h = unless-clean own other (stack_from folder kind own) refl h

  no_faults : (xs ys : List ConfError) → xs ++ ys ≡ [] → (xs ≡ []) × (ys ≡ [])
  no_faults [] ys h = (refl, h)
  no_faults (x ∷ xs) ys h = absurd (cc)

  clean-unless : (own : StartText) (other : Option StartText) (i : Option Items) → (survey_from folder kind own).items ≡ i →
      Gives (survey_unless_empty folder kind other (survey_from folder kind own) i) → unless_empty folder kind other (stack_from folder kind own) ≡ Ok items
  clean-unless own None i is h = clean-stack folder kind own items h.0 h.1
  clean-unless own (Some o) None is h = absurd (cc)
  clean-unless own (Some o) (Some End) is h =
      let s = survey_from folder kind own in
      let faults = no_faults s.faults (survey_from folder kind o).faults h.1.0 in
      let files = all_added (Sound folder) s.reached (survey_from folder kind o).reached h.1.1 in
      ap (unless_empty folder kind (Some o)) (clean-stack folder kind own End is (faults.0, files.0))
      ∙ clean-stack folder kind o items h.0 (faults.1, files.1)
  clean-unless own (Some o) (Some (ThenModule m rest)) is h =
      ap (unless_empty folder kind (Some o)) (clean-stack folder kind own (ThenModule m rest) is h.1) ∙ ap Ok (same_some (ThenModule m rest) items
      (sym is ∙ h.0))
  clean-unless own (Some o) (Some (ThenSub t inner rest)) is h =
      ap (unless_empty folder kind (Some o)) (clean-stack folder kind own (ThenSub t inner rest) is h.1)
      ∙ ap Ok (same_some (ThenSub t inner rest) items (sym is ∙ h.0))

  clean-starts : (own other : Option StartText) → Gives (survey_starts folder kind own other) → from_starts folder kind own other ≡ Ok items
  clean-starts None None h = absurd (cc)
  clean-starts None (Some o) h = clean-stack folder kind o items h.0 h.1
  clean-starts (Some own) other h = clean-unless own other (survey_from folder kind own).items refl h

-- PAM.CONF

module _ (folder : Folder) (kind : Kind) where
  -- the file pam.conf is sound, in that form of configuration
  abbrev PamConf : Form → Option ℕ → Type 0
  PamConf Dir o = Unit {0}
  PamConf Single None = Unit {0}
  PamConf Single (Some file) = Sound folder file

  start-same : (form : Form) (service : List ℕ) → PamConf form (position_of (codes "pam.conf") folder.entries) →
      start_in form folder (rules_at folder) service ≡ start_in form folder (good_at folder) service
  start-same Dir service h = refl
  start-same Single service h =
      elim (position_of (codes "pam.conf") folder.entries) as (λ (o : Option ℕ). PamConf Single o →
      option_and_then (λ f. start_read f service (rules_at folder f)) o ≡ option_and_then (λ f. start_read f service (good_at folder f)) o) [
        | None ↦ λ g. refl
        | Some file ↦ λ g. ap (start_read file service) (sound-reads folder file g)
      ] h

  read-sound_for : (file : ℕ) (r : Result (List RuleText) RuleFault) → rules_at folder file ≡ r → (service : List ℕ) (other : Option StartText)
      (items : Items) →
      from_starts folder kind (start_read file service r) other ≡ Ok items → Sound folder file
  read-sound_for file (Err fault) is service other items h =
      let read : in_file file (rules_at folder file) ≡ Err (fault_at file fault.line fault.kind) = ap (in_file file) is in
      let refused = faulty folder kind service other file (fault_at file fault.line fault.kind) (Err fault) refl
      (start-fault folder kind file (Some service) (fault_at file fault.line fault.kind) read) in
      absurd (cc)
  read-sound_for file (Ok rules) is service other items h = reads-sound folder file rules is

  stack-sound : (form : Form) (service : List ℕ) (other : Option StartText) (items : Items) →
      from_starts folder kind (start_in form folder (rules_at folder) service) other ≡ Ok items → PamConf form (position_of (codes "pam.conf") folder.entries)
  stack-sound Dir service other items h = tt
  stack-sound Single service other items h =
      elim (position_of (codes "pam.conf") folder.entries) as (λ (o : Option ℕ).
      from_starts folder kind (option_and_then (λ f. start_read f service (rules_at folder f)) o) other ≡ Ok items → PamConf Single o) [
        | None ↦ λ g. tt
        | Some file ↦ λ g. read-sound_for file (rules_at folder file) refl service other items g
      ] h

  first-sound : (own : StartText) (other : Option StartText) (i : Option Items) →
      Each (Sound folder) (survey_unless_empty folder kind other (survey_from folder kind own) i).reached → Sound folder own.file
  first-sound own None i h = clean-first folder kind own h
  first-sound own (Some o) None h = clean-first folder kind own h
  first-sound own (Some o) (Some End) h =
      clean-first folder kind own (all_added (Sound folder) (survey_from folder kind own).reached (survey_from folder kind o).reached h).0
  first-sound own (Some o) (Some (ThenModule m rest)) h = clean-first folder kind own h
  first-sound own (Some o) (Some (ThenSub t inner rest)) h = clean-first folder kind own h

  carried-sound : (file : ℕ) (own other : Bool) (service second : List ℕ) (items : Items) →
      Gives folder kind items (survey_starts folder kind (carried own file service) (carried other file second)) → Sound folder file
  carried-sound file true other service second items h =
      first-sound (record { file = file; service = Some service }) (carried other file second)
      (survey_from folder kind (record { file = file; service = Some service })).items h.1.1
  carried-sound file false true service second items h = clean-first folder kind (record { file = file; service = Some second }) h.1.1
  carried-sound file false false service second items h = absurd (cc)

  survey-sound : (form : Form) (service second : List ℕ) (items : Items) →
      Gives folder kind items (survey_starts folder kind (start_in form folder (good_at folder) service) (start_in form folder (good_at folder) second)) →
      PamConf form (position_of (codes "pam.conf") folder.entries)
  survey-sound Dir service second items h = tt
  survey-sound Single service second items h =
      elim (position_of (codes "pam.conf") folder.entries) as (λ (o : Option ℕ). Gives folder kind items (survey_starts folder kind
      (option_and_then (λ f. start_read f service (good_at folder f)) o) (option_and_then (λ f. start_read f second (good_at folder f)) o)) →
      PamConf Single o) [
        | None ↦ λ g. tt
        | Some file ↦ λ g. carried-sound file _ _ service second items g
      ] h

-- A SERVICE

pub stack_is_sound : StackIsSoundSurvey
unfolding resolved surveyed
stack_is_sound folder service kind items =
    let name = map to_ascii_lowercase service in
    let second = codes "other" in (
      λ h.
          let sound = stack-sound folder kind folder.form name (start_of folder (rules_at folder) second) items h in
          let own = start-same folder kind folder.form name sound in
          let other = start-same folder kind folder.form second sound in
          let given = starts-clean folder kind items (start_of folder (rules_at folder) name) (start_of folder (rules_at folder) second) h in
          let all : Gives folder kind items (survey_starts folder kind (start_of folder (good_at folder) name) (start_of folder (good_at folder) second)) =
          subst (λ (o : Option StartText). Gives folder kind items (survey_starts folder kind (start_of folder (good_at folder) name) o)) other
          (subst (λ (o : Option StartText). Gives folder kind items (survey_starts folder kind o (start_of folder (rules_at folder) second))) own given) in
          (all.0, (all.1.0, All-from_recursion (Sound folder) _ all.1.1)),
      λ h.
          let given : Gives folder kind items (survey_starts folder kind (start_of folder (good_at folder) name) (start_of folder (good_at folder) second)) =
          (h.0, (h.1.0, recursion_from_All (Sound folder) _ h.1.1)) in
          let sound = survey-sound folder kind folder.form name second items given in
          ap (λ (o : Option StartText). from_starts folder kind o (start_of folder (rules_at folder) second)) (start-same folder kind folder.form name sound)
          ∙ ap (from_starts folder kind (start_of folder (good_at folder) name)) (start-same folder kind folder.form second sound)
          ∙ clean-starts folder kind items (start_of folder (good_at folder) name) (start_of folder (good_at folder) second) given,
    )

module _ (folder : Folder) (kind : Kind) where
  from-has : (start : StartText) → (survey_from folder kind start).faults ≡ [] → IsSome (survey_from folder kind start).items
  unfolding survey_from
  from-has start h =
      let events = (walk folder (good_at folder) kind start.service (MAX_OPEN_FILES - 1) (start.file ∷ []) start.file).events in
      rw (none-fine 0 0 events (told-none 0 0 events h)).2 refl

  unless-has : (own : StartText) (other : Option StartText) (i : Option Items) → (survey_from folder kind own).items ≡ i →
      (survey_unless_empty folder kind other (survey_from folder kind own) i).faults ≡ [] →
      IsSome (survey_unless_empty folder kind other (survey_from folder kind own) i).items
  unless-has own None i is h = from-has own h
  unless-has own (Some o) None is h = from-has own h
  unless-has own (Some o) (Some End) is h =
      from-has o (no_faults folder kind End (survey_from folder kind own).faults (survey_from folder kind o).faults h).1
  unless-has own (Some o) (Some (ThenModule m rest)) is h = from-has own h
  unless-has own (Some o) (Some (ThenSub t inner rest)) is h = from-has own h

  starts-has : (own other : Option StartText) → (survey_starts folder kind own other).faults ≡ [] → IsSome (survey_starts folder kind own other).items
  starts-has None None h = absurd (cc)
  starts-has None (Some o) h = from-has o h
  starts-has (Some own) other h = unless-has own other (survey_from folder kind own).items refl h

pub faultless : FaultlessHasStack
unfolding surveyed
faultless folder service kind h =
    starts-has folder kind (start_of folder (good_at folder) (map to_ascii_lowercase service)) (start_of folder (good_at folder) (codes "other")) h
