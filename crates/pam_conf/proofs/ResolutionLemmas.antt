use Rattle.std.proofs.Common.{◌≡◌, ◌≤◌, ◌<◌, ◌+◌, ◌-◌, ℕ, suc, Bool, true, false, cond, List, [], ◌∷◌, ◌++◌, map, length, Option, Some, None, Result}
use Rattle.std.proofs.Common.{Ok, Err, ap}
use Rattle.std.proofs.Common.{subst, sym}
use Rattle.std.proofs.Common.{refl, ◌∙◌, arith, append-nil, Bor, IfSome, filter, eqb, codes, option_and_then, drop, get_or, add-one, ◌||◌}
use Rattle.std.proofs.Math.Seq.{drop-cons}
use Rattle.std.specs.Char.{to_ascii_lowercase}
use Rattle.std.specs.List.{list_any}
use Rattle.std.specs.Option.{option_map}
use Rattle.std.proofs.lemmas.Bool.{and_parts, false≢true}
use Rattle.pam_conf.specs.Files.{Folder, position_of}
use Rattle.pam_conf.specs.ItemsOf.{items_of}
use Rattle.pam_conf.specs.inner.Progress.{Count, Passes, Refuses, IsRead, account, in_file, only}
use Rattle.pam_conf.specs.Resolution.{StartText, stack_from, from_starts, unless_empty, carried, start_read, start_in, resolved}
use Rattle.pam_conf.specs.inner.StartOf.{IsReadStart, start_text}
use Rattle.pam_conf.specs.declared.resolution.Start.{Start}
use Rattle.pam_conf.specs.declared.rule.Form.{Form}
use Rattle.pam_conf.specs.declared.rule.Form.TheVariants.{Single}
use Rattle.pam_conf.specs.Tells.{UnlessMemory}
use Rattle.pam_conf.specs.inner.Kept.{kept_view}
use Rattle.pam_conf.specs.Rule.{RuleText}
use Rattle.pam_conf.specs.Stack.{Items, End, joined, module_count, depth, IsNumbered}
use Rattle.pam_conf.specs.Walk.{Walk, Event, Reads, carries, is_of_kind, walk, refusal, numbered, rules_at, fault_at, deeper, read_walk}
use Rattle.pam_conf.specs.declared.conf_error.ConfError.{ConfError}
use Rattle.pam_conf.specs.declared.error.RuleFault.{RuleFault}
use Rattle.pam_conf.specs.declared.rule.Kind.{Kind}
use Rattle.pam_conf.specs.declared.kept.KeptRule.{KeptRule}
use Rattle.pam_conf.specs.declared.stack.Item.{Item}
use Rattle.pam_conf.specs.declared.stack.Item.TheVariants.{Module as ModuleItem, Sub as SubItem}
use Rattle.pam_conf.specs.declared.trail.TheConstants.{MAX_OPEN_FILES}
use Rattle.pam_conf.proofs.WalkLemmas.{unless-weaker, module_count-numbered, read_walk-only, walk-file}
use Rattle.pam_conf.proofs.Accounts.{account-refusal, ended_with, not_ended, outcome}
use Rattle.pam_conf.proofs.DepthLemmas.{numbered-from, depth-numbered, depth-walk}

-- the walk from a start on, as the code begins it
abbrev pub begun : Folder → Reads → Kind → StartText → List ℕ → Walk
begun folder reads kind start trail = walk folder reads kind start.service (MAX_OPEN_FILES - length trail) trail start.file

-- the items are a stack
module _ (folder : Folder) (reads : Reads) (kind : Kind) (start : StartText) (trail : List ℕ) (is : trail ≡ start.file ∷ []) (on : Bool) (n n' : Count)
    (fresh : n.modules ≡ 0) (i0 i : Items) (none : i0 ≡ End) (p : Passes on n i0 (begun folder reads kind start trail) n' i) where
  items-are : i ≡ numbered 1 (begun folder reads kind start trail).items
  items-are =
      p.added
      ∙ ap (λ j. joined j (numbered (n.modules + 1) (begun folder reads kind start trail).items)) none
      ∙ ap (λ k. numbered (k + 1) (begun folder reads kind start trail).items) fresh

  pub stack-counted : n'.modules ≡ module_count i
  stack-counted = omega (arith, p.counted, fresh, ap module_count items-are, module_count-numbered 1 (begun folder reads kind start trail).items)

  pub stack-shallow : depth i ≤ MAX_OPEN_FILES
  stack-shallow =
      let room : length trail ≡ 1 = ap length is in
      omega (
        arith,
        ap depth items-are,
        depth-numbered 1 (begun folder reads kind start trail).items,
        depth-walk folder reads kind start.service (MAX_OPEN_FILES - length trail) trail start.file,
      )

  pub stack-numbered : IsNumbered i
  stack-numbered = subst IsNumbered (sym items-are) (numbered-from 1 (begun folder reads kind start trail).items)

  -- the walk of the start, and all that it comes to
  pub stack-walked : let w = walk folder reads kind start.service (MAX_OPEN_FILES - 1) (start.file ∷ []) start.file in
      (account on n w.events ≡ account on n' []) × (i ≡ numbered 1 w.items)
  stack-walked =
      let w = walk folder reads kind start.service (MAX_OPEN_FILES - 1) (start.file ∷ []) start.file in
      let same : begun folder reads kind start trail ≡ w = ap (begun folder reads kind start) is in (
        ap (account on n) (sym (append-nil w.events)) ∙ subst (λ (v : Walk). account on n (v.events ++ []) ≡ account on n' []) same (p.accounted []),
        items-are ∙ ap (λ (v : Walk). numbered 1 v.items) same,
      )

module _ (folder : Folder) (kind : Kind) (start : StartText) (trail : List ℕ) (is : trail ≡ start.file ∷ []) (n n' : Count) (fresh : n.modules ≡ 0)
    (unfollowed : n.follows ≡ 0) where
  -- the first fault of a walk that ends there
  ends : (events : List Event) → account false n events ≡ outcome n.noted n.reached (refusal 0 0 events)
  ends events = account-refusal n events ∙ ap (λ k. outcome n.noted n.reached (refusal k n.follows events)) fresh
      ∙ ap (λ k. outcome n.noted n.reached (refusal 0 k events)) unfollowed

  pub stack-done : (i0 i : Items) → i0 ≡ End → Passes false n i0 (begun folder (rules_at folder) kind start trail) n' i → stack_from folder kind start ≡ Ok i
  unfolding stack_from account
  stack-done i0 i none p =
      let w = walk folder (rules_at folder) kind start.service (MAX_OPEN_FILES - 1) (start.file ∷ []) start.file in
      let walked = stack-walked folder (rules_at folder) kind start trail is false n n' fresh i0 i none p in
      let fine : refusal 0 0 w.events ≡ None = not_ended n.noted n.reached (refusal 0 0 w.events) n'.noted n'.reached (sym (ends w.events) ∙ walked.0) in
      rw fine (ap Ok (sym walked.1))

  pub stack-refused : (e : ConfError) → Refuses false n (begun folder (rules_at folder) kind start trail) n' e →
      UnlessMemory e e.kind (stack_from folder kind start ≡ Err e)
  unfolding stack_from
  stack-refused e r =
      let w = walk folder (rules_at folder) kind start.service (MAX_OPEN_FILES - 1) (start.file ∷ []) start.file in
      unless-weaker e e.kind (λ h.
      let no : refusal 0 0 w.events ≡ Some e =
      ended_with n.noted n.reached (refusal 0 0 w.events) n' e (sym (ends w.events) ∙ ap (account false n) (sym (append-nil w.events)) ∙ h []) in
      rw no refl)
      (subst (λ (t : List ℕ). Refuses false n (begun folder (rules_at folder) kind start t) n' e) is r)

-- a list of items, as a tree

pub items-empty : (xs : List Item) → length xs ≡ 0 → items_of xs ≡ End
items-empty [] h = refl
items-empty (x ∷ xs) h = absurd (omega arith)

not_empty : (folder : Folder) (kind : Kind) (other : Option StartText) (xs : List Item) → false ≡ eqb (length xs) 0 →
    unless_empty folder kind other (Ok (items_of xs)) ≡ Ok (items_of xs)
not_empty folder kind other [] h = absurd (false≢true h)
not_empty folder kind None (ModuleItem m ∷ xs) h = refl
not_empty folder kind None (SubItem s ∷ xs) h = refl
not_empty folder kind (Some other) (ModuleItem m ∷ xs) h = refl
not_empty folder kind (Some other) (SubItem s ∷ xs) h = refl

-- a stack that is not empty is not replaced
pub keeps-own : (folder : Folder) (kind : Kind) (own : Option Start) (first : Start) (other : Option StartText) (xs : List Item) (items : Items) →
    own ≡ Some first → stack_from folder kind (start_text first) ≡ Ok items → items_of xs ≡ items → false ≡ eqb (length xs) 0 →
    from_starts folder kind (option_map start_text own) other ≡ Ok items
keeps-own folder kind own first other xs items is stack same some =
    ap (λ (s : Option Start). from_starts folder kind (option_map start_text s) other) is
    ∙ ap (unless_empty folder kind other) (stack ∙ ap Ok (sym same))
    ∙ not_empty folder kind other xs some
    ∙ ap Ok same

-- a fault of the file of the rules
read_fault : (folder : Folder) (reads : Reads) (kind : Kind) (service : Option (List ℕ)) (file : ℕ) (r : Result (List RuleText) RuleFault) (e : ConfError) →
    in_file file r ≡ Err e → (refusal 0 0 (read_walk folder reads kind service (deeper folder reads kind service (MAX_OPEN_FILES - 1))
    (file ∷ []) file r).events) ≡ Some e
unfolding refusal
read_fault folder reads kind service file (Ok rules) e h = absurd (cc)
read_fault folder reads kind service file (Err fault) e h = let same : fault_at file fault.line fault.kind ≡ e = cc in ap Some same

pub start-fault : (folder : Folder) (kind : Kind) (file : ℕ) (service : Option (List ℕ)) (e : ConfError) → in_file file (rules_at folder file) ≡ Err e →
    stack_from folder kind record { file = file; service = service } ≡ Err e
unfolding stack_from
start-fault folder kind file service e h =
    let no : refusal 0 0 (walk folder (rules_at folder) kind service (MAX_OPEN_FILES - 1) (file ∷ []) file).events ≡ Some e =
    ap (λ (w : Walk). refusal 0 0 w.events) (walk-file folder (rules_at folder) kind service (MAX_OPEN_FILES - 1) (file ∷ []) file)
    ∙ read_fault folder (rules_at folder) kind service file (rules_at folder file) e h in
    rw no refl

-- the rules that are left, in the search for a service

any-more : (service : List ℕ) (rules : List KeptRule) (k : ℕ) (r : KeptRule) → k < length rules → r ≡ get_or rules k r →
    list_any (carries service) (map kept_view (drop k rules)) ≡ (carries service (kept_view r) || list_any (carries service)
    (map kept_view (drop (k + 1) rules)))
any-more service rules k r within is =
    let next : drop k rules ≡ r ∷ drop (k + 1) rules = rw add-one (drop-cons rules k r within ∙ ap (λ (x : KeptRule). x ∷ drop (suc k) rules) (sym is)) in
    ap (λ (rs : List KeptRule). list_any (carries service) (map kept_view rs)) next

pub any-skip : (service : List ℕ) (rules : List KeptRule) (k : ℕ) (r : KeptRule) → k < length rules → r ≡ get_or rules k r →
    carries service (kept_view r) ≡ false →
    list_any (carries service) (map kept_view (drop k rules)) ≡ list_any (carries service) (map kept_view (drop (k + 1) rules))
any-skip service rules k r within is h = any-more service rules k r within is ∙ ap (λ b. b || list_any (carries service) (map kept_view (drop (k + 1) rules))) h

pub any-here : (service : List ℕ) (rules : List KeptRule) (k : ℕ) (r : KeptRule) → k < length rules → r ≡ get_or rules k r →
    carries service (kept_view r) ≡ true →
    list_any (carries service) (map kept_view (drop k rules)) ≡ true
any-here service rules k r within is h = any-more service rules k r within is ∙ ap (λ b. b || list_any (carries service) (map kept_view (drop (k + 1) rules))) h

-- PAM.CONF

pub faulty : (folder : Folder) (kind : Kind) (service : List ℕ) (other : Option StartText) (file : ℕ) (e : ConfError) (r : Result (List RuleText) RuleFault) →
    in_file file r ≡ Err e →
    stack_from folder kind record { file = file; service = Some service } ≡ Err e → from_starts folder kind (start_read file service r) other ≡ Err e
faulty folder kind service other file e (Ok rules) h s = absurd (cc)
faulty folder kind service None file e (Err fault) h s = s
faulty folder kind service (Some other) file e (Err fault) h s = ap (unless_empty folder kind (Some other)) s

-- the rules of pam.conf of two services: a fault of another rule is still one
pub only-fault : (file : ℕ) (test : RuleText → Bool) (r : Result (List RuleText) RuleFault) (e : ConfError) → in_file file (only test r) ≡ Err e →
    in_file file r ≡ Err e
only-fault file test (Ok rules) e h = absurd (cc)
only-fault file test (Err fault) e h = h

-- a fault of any line of pam.conf is the result
pub one-file_fault : (folder : Folder) (kind : Kind) (service : List ℕ) (other : Option StartText) (file : ℕ) (e : ConfError) →
    position_of (codes "pam.conf") folder.entries ≡ Some file → (test : RuleText → Bool) →
    UnlessMemory e e.kind (in_file file (only test (rules_at folder file)) ≡ Err e) →
    UnlessMemory e e.kind (from_starts folder kind (start_in Single folder (rules_at folder) service) other ≡ Err e)
one-file_fault folder kind service other file e at test = unless-weaker e e.kind (λ g.
    let h : in_file file (rules_at folder file) ≡ Err e = only-fault file test (rules_at folder file) e g in
    ap (λ (o : Option ℕ). from_starts folder kind (option_and_then (λ f. start_read f service (rules_at folder f)) o) other) at
    ∙ faulty folder kind service other file e (rules_at folder file) h (start-fault folder kind file (Some service) e h))

-- whether a rule names a service, where only the rules of some services are left
module _ (service : List ℕ) (test : RuleText → Bool) (all : (r : RuleText) → carries service r ≡ true → test r ≡ true) where
  uncarried : (r : RuleText) → test r ≡ false → carries service r ≡ false
  uncarried r e = elim (carries service r) as (λ (t : Bool). carries service r ≡ t → t ≡ false) [
    | true ↦ λ c. absurd (false≢true (sym e ∙ all r c))
    | false ↦ λ c. refl
  ] refl

  any-only : (rules : List RuleText) → list_any (carries service) (filter test rules) ≡ list_any (carries service) rules
  any-only [] = refl
  any-only (r ∷ rules) = elim (test r) as (λ (t : Bool). test r ≡ t →
      list_any (carries service) (cond t (r ∷ filter test rules) (filter test rules)) ≡ (carries service r || list_any (carries service) rules)) [
        | true ↦ λ e. ap (λ b. carries service r || b) (any-only rules)
        | false ↦ λ e. any-only rules ∙ ap (λ b. b || list_any (carries service) rules) (sym (uncarried r e))
      ] refl

  start-only : (file : ℕ) (r : Result (List RuleText) RuleFault) (rules : List RuleText) → in_file file (only test r) ≡ Ok rules →
      start_read file service r ≡ carried (list_any (carries service) rules) file service
  start-only file (Ok read) rules h =
      let same : filter test read ≡ rules = cc in
      ap (λ b. carried b file service) (sym (any-only read) ∙ ap (list_any (carries service)) same)
  start-only file (Err fault) rules h = absurd (cc)

  -- the start of a service's rules in pam.conf
  pub one-file_start : (folder : Folder) (file : ℕ) (rules : List RuleText) → position_of (codes "pam.conf") folder.entries ≡ Some file →
      in_file file (only test (rules_at folder file)) ≡ Ok rules → start_in Single folder (rules_at folder) service ≡ carried (list_any
      (carries service) rules) file service
  one-file_start folder file rules at read =
      ap (λ (o : Option ℕ). option_and_then (λ f. start_read f service (rules_at folder f)) o) at
      ∙ start-only file (rules_at folder file) rules read

  -- the rules that are left have the walk of the file
  pub one-file_read : (folder : Folder) (kind : Kind) (file : ℕ) (rules : List KeptRule) →
      in_file file (only test (rules_at folder file)) ≡ Ok (map kept_view rules) → IsRead folder (rules_at folder) kind (Some service) file (Some rules)
  one-file_read folder kind file rules read d trail =
      read_walk-only folder (rules_at folder) kind (Some service) test (λ r c. all r (and_parts (is_of_kind kind r) (carries service r) c).1) d trail file
      (rules_at folder file) (map kept_view rules) read

named-first : (own other : Bool) → own ≡ true → (own || other) ≡ true
named-first own other h = rw h refl

named-second : (own other : Bool) → other ≡ true → (own || other) ≡ true
named-second true other h = refl
named-second false other h = h

-- the rules of pam.conf that name one of two services, as the code reads them
module _ (folder : Folder) (file : ℕ) (own other : List ℕ) (rules slice : List KeptRule) (test : RuleText → Bool)
    (names : (r : RuleText) → test r ≡ (carries own r || carries other r))
    (read : in_file file (only test (rules_at folder file)) ≡ Ok (map kept_view rules)) (is : slice ≡ rules) where
  in_own : (r : RuleText) → carries own r ≡ true → test r ≡ true
  in_own r h = names r ∙ named-first (carries own r) (carries other r) h

  in_other : (r : RuleText) → carries other r ≡ true → test r ≡ true
  in_other r h = names r ∙ named-second (carries own r) (carries other r) h

  slice_read : in_file file (only test (rules_at folder file)) ≡ Ok (map kept_view slice)
  slice_read = read ∙ ap (λ (rs : List KeptRule). Ok (map kept_view rs)) (sym is)

  pub own-read : (kind : Kind) → IsRead folder (rules_at folder) kind (Some own) file (Some slice)
  own-read kind = one-file_read own test in_own folder kind file slice slice_read

  pub other-read : (kind : Kind) → IsRead folder (rules_at folder) kind (Some other) file (Some slice)
  other-read kind = one-file_read other test in_other folder kind file slice slice_read

  module _ (at : position_of (codes "pam.conf") folder.entries ≡ Some file) where
    pub own-start : carried (list_any (carries own) (map kept_view slice)) file own ≡ start_in Single folder (rules_at folder) own
    own-start = sym (one-file_start own test in_own folder file (map kept_view slice) at slice_read)

    pub other-start : carried (list_any (carries other) (map kept_view slice)) file other ≡ start_in Single folder (rules_at folder) other
    other-start = sym (one-file_start other test in_other folder file (map kept_view slice) at slice_read)

-- a start that holds rules that are read
pub start-is_read : (folder : Folder) (kind : Kind) (file : ℕ) (o : Option Start) (r : Bor (List KeptRule)) (b : Bor (List ℕ)) →
    IfSome o (λ s. (s.file ≡ file) × (s.read ≡ Some r) × (s.service ≡ Some b)) → IsRead folder (rules_at folder) kind (Some b.now) file (Some r.now) →
    IfSome o (IsReadStart folder kind)
start-is_read folder kind file None r b h read = tt
start-is_read folder kind file (Some s) r b h read = rw (h.0, h.1, h.2) read

pub same-starts : (folder : Folder) (kind : Kind) (own own' other other' : Option StartText) → own ≡ own' → other ≡ other' →
    from_starts folder kind own other ≡ from_starts folder kind own' other'
same-starts folder kind own own' other other' e f = rw (e, f) refl

pub resolved-in : (folder : Folder) (kind : Kind) (form : Form) (service lowered : List ℕ) → folder.form ≡ form → lowered ≡ map to_ascii_lowercase service →
    from_starts folder kind (start_in form folder (rules_at folder) lowered) (start_in form folder (rules_at folder) (codes "other"))
    ≡ resolved folder service kind
unfolding resolved
resolved-in folder kind form service lowered is low = rw (low, ← is) refl
