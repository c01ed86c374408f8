use Rattle.std.proofs.Common.{◌≡◌, ◌<◌, ◌+◌, ◌-◌, ℕ, zero, suc, Bool, true, false, cond, eqb, List, [], ◌∷◌, ◌++◌, map, filter, length, drop, get_or, add-one}
use Rattle.std.proofs.Common.{Option, Some, None, Result, Ok, Err, IfErr, IfOk, IsErrAnd, IsOkAnd, MatchOption, MatchResult, ap, subst, sym, refl}
use Rattle.std.proofs.Common.{◌∙◌, arith, append_assoc, length-append}
use Rattle.std.specs.Option.{option_map_or}
use Rattle.std.specs.List.{list_any, position_or_len}
use Rattle.std.specs.Str.{bytes_eq}
use Rattle.std.proofs.Math.Dec.{ltb}
use Rattle.std.proofs.Math.Seq.{drop-cons}
use Rattle.std.proofs.lemmas.Option.{cond_some}
use Rattle.std.proofs.lemmas.Bool.{and_parts, false≢true, ne_eqb, ltb-true}
use Rattle.pam_conf.specs.Files.{Folder, position_of}
use Rattle.pam_conf.specs.inner.Progress.{Count, Passes, Refuses, IsRead, account, ended_by, ending, of_kind, only, in_file, with_fault, with_follow}
use Rattle.pam_conf.specs.Tells.{UnlessMemory}
use Rattle.pam_conf.specs.inner.Kept.{kept_view}
use Rattle.pam_conf.specs.Rule.{RuleText}
use Rattle.pam_conf.specs.Stack.{Items, End, ThenModule, ThenSub, joined, module_count}
use Rattle.pam_conf.specs.Walk.{Walk, Event, Deeper, Reads, walk, deeper, numbered, failed, nothing, ◌then◌, followed, fault_at, target_walk, include_walk}
use Rattle.pam_conf.specs.Walk.{rules_walk, rule_walk, read_walk, file_walk, counts, carries, is_of_kind}
use Rattle.pam_conf.specs.declared.conf_error.ConfError.{ConfError}
use Rattle.pam_conf.specs.declared.error.FaultKind.{FaultKind}
use Rattle.pam_conf.specs.declared.error.FaultKind.TheVariants.{Memory, Cycle, NoService, TooDeep, TooManyFollowed}
use Rattle.pam_conf.specs.declared.error.RuleFault.{RuleFault}
use Rattle.pam_conf.specs.declared.rule.Kind.{Kind}
use Rattle.pam_conf.specs.declared.kept.KeptRule.{KeptRule}
use Rattle.pam_conf.specs.declared.trail.TheConstants.{MAX_OPEN_FILES}
use Rattle.pam_conf.specs.declared.walk.TheConstants.{MAX_FOLLOWS}
use Rattle.pam_conf.proofs.StackTree.{joined-End, joined_assoc, module_count-joined}

pub unless-weaker : (e : ConfError) (kind : FaultKind) {P Q : Type 0} → (P → Q) → UnlessMemory e kind P → UnlessMemory e kind Q
unless-weaker e Memory f h = h
unless-weaker e kind f h = f h

-- NUMBERS

pub module_count-numbered : (n : ℕ) (items : Items) → module_count (numbered n items) ≡ module_count items
module_count-numbered n End = refl
module_count-numbered n (ThenModule m rest) = ap (λ k. k + 1) (module_count-numbered (n + 1) rest)
module_count-numbered n (ThenSub s inner rest) = omega (arith, module_count-numbered n inner, module_count-numbered (n + module_count inner) rest)

pub numbered-joined : (n : ℕ) (front back : Items) → numbered n (joined front back) ≡ joined (numbered n front) (numbered (n + module_count front) back)
numbered-joined n End back = let e : n ≡ n + 0 = omega arith in ap (λ k. numbered k back) e
numbered-joined n (ThenModule m rest) back =
    let e : n + 1 + module_count rest ≡ n + (module_count rest + 1) = omega arith in
    ap (ThenModule (record m { number = n })) (numbered-joined (n + 1) rest back ∙ ap (λ k. joined (numbered (n + 1) rest) (numbered k back)) e)
numbered-joined n (ThenSub s inner rest) back =
    let e : n + module_count inner + module_count rest ≡ n + (module_count inner + module_count rest) = omega arith in
    ap (ThenSub s (numbered n inner)) (numbered-joined (n + module_count inner) rest back
    ∙ ap (λ k. joined (numbered (n + module_count inner) rest) (numbered k back)) e)

-- ONE WALK FOLLOWED BY ANOTHER

pub passes-nothing : (on : Bool) (n : Count) (items : Items) → Passes on n items nothing n items
passes-nothing on n items = record {
  accounted = λ rest. refl;
  counted = omega arith;
  added = sym (joined-End items);
}

pub passes-then : (on : Bool) (n n1 n2 : Count) (i i1 i2 : Items) (v w : Walk) → Passes on n i v n1 i1 → Passes on n1 i1 w n2 i2 →
    Passes on n i (v then w) n2 i2
passes-then on n n1 n2 i i1 i2 v w p q =
    let next : n1.modules + 1 ≡ n.modules + 1 + module_count v.items = omega (arith, p.counted) in
    record {
      accounted = λ rest. ap (account on n) (append_assoc v.events w.events rest) ∙ p.accounted (w.events ++ rest) ∙ q.accounted rest;
      counted = omega (arith, p.counted, q.counted, module_count-joined v.items w.items);
      added =
          q.added
          ∙ ap (λ j. joined j (numbered (n1.modules + 1) w.items)) p.added
          ∙ ap (λ k. joined (joined i (numbered (n.modules + 1) v.items)) (numbered k w.items)) next
          ∙ joined_assoc i (numbered (n.modules + 1) v.items) (numbered (n.modules + 1 + module_count v.items) w.items)
          ∙ ap (joined i) (sym (numbered-joined (n.modules + 1) v.items w.items));
    }

pub refuses-first : (on : Bool) (n n' : Count) (v w : Walk) (e : ConfError) → Refuses on n v n' e → Refuses on n (v then w) n' e
refuses-first on n n' v w e = unless-weaker e e.kind (λ h rest. ap (account on n) (append_assoc v.events w.events rest) ∙ h (w.events ++ rest))

pub refuses-then : (on : Bool) (n n1 n' : Count) (i i1 : Items) (v w : Walk) (e : ConfError) → Passes on n i v n1 i1 → Refuses on n1 w n' e →
    Refuses on n (v then w) n' e
refuses-then on n n1 n' i i1 v w e p =
    unless-weaker e e.kind (λ h rest. ap (account on n) (append_assoc v.events w.events rest) ∙ p.accounted (w.events ++ rest) ∙ h rest)

-- ALONG THE RULES: the walk from the beginning on, and the walk that is left

pub record Leads (on : Bool) (n0 : Count) (i0 : Items) (w0 : Walk) (n : Count) (i : Items) (w : Walk) : Type 0 where
  pub passes : (n' : Count) (i' : Items) → Passes on n i w n' i' → Passes on n0 i0 w0 n' i'
  pub refuses : (n' : Count) (e : ConfError) → Refuses on n w n' e → Refuses on n0 w0 n' e

pub leads-start : (on : Bool) (n : Count) (i : Items) (w v : Walk) → w ≡ v → Leads on n i w n i v
leads-start on n i w v same = record {
  passes = λ n' i' p. subst (λ u. Passes on n i u n' i') (sym same) p;
  refuses = λ n' e r. subst (λ u. Refuses on n u n' e) (sym same) r;
}

pub leads-step : (on : Bool) (n0 n n1 : Count) (i0 i i1 : Items) (w0 w v rest : Walk) → Leads on n0 i0 w0 n i w → w ≡ v then rest →
    Passes on n i v n1 i1 → Leads on n0 i0 w0 n1 i1 rest
leads-step on n0 n n1 i0 i i1 w0 w v rest l same p = record {
  passes = λ n' i' q. l.passes n' i' (subst (λ u. Passes on n i u n' i') (sym same) (passes-then on n n1 n' i i1 i' v rest p q));
  refuses = λ n' e q. l.refuses n' e (subst (λ u. Refuses on n u n' e) (sym same) (refuses-then on n n1 n' i i1 v rest e p q));
}

pub leads-end : (on : Bool) (n0 n : Count) (i0 i : Items) (w0 w : Walk) → Leads on n0 i0 w0 n i w → w ≡ nothing → Passes on n0 i0 w0 n i
leads-end on n0 n i0 i w0 w l same = l.passes n i (subst (λ u. Passes on n i u n i) (sym same) (passes-nothing on n i))

pub leads-refused : (on : Bool) (n0 n n' : Count) (i0 i : Items) (w0 w v rest : Walk) (e : ConfError) → Leads on n0 i0 w0 n i w → w ≡ v then rest →
    Refuses on n v n' e → Refuses on n0 w0 n' e
leads-refused on n0 n n' i0 i w0 w v rest e l same r =
    l.refuses n' e (subst (λ u. Refuses on n u n' e) (sym same) (refuses-first on n n' v rest e r))

-- TARGETS

-- a follow, and the files that are reached then
abbrev pub reached_by : Count → List ℕ → Count
reached_by n files = record n { follows = n.follows + 1; reached = files }

module _ (folder : Folder) (reads : Reads) (kind : Kind) (service : Option (List ℕ)) where
  pub no_service : (d : Deeper) (trail : List ℕ) (o : Option ℕ) → o ≡ None → target_walk d trail o ≡ Err NoService
  no_service d trail o none = rw none refl

  pub open_already : (d : Deeper) (trail : List ℕ) (o : Option ℕ) (p : ℕ) → o ≡ Some p → list_any (λ q. eqb q p) trail ≡ true →
      target_walk d trail o ≡ Err Cycle
  open_already d trail o p some there = rw (some, there) refl

  pub too_deep : (room : ℕ) (trail : List ℕ) (o : Option ℕ) (p : ℕ) → o ≡ Some p → list_any (λ q. eqb q p) trail ≡ false → room ≡ 0 →
      target_walk (deeper folder reads kind service room) trail o ≡ Err TooDeep
  too_deep room trail o p some absent full = rw (some, absent, full) refl

  pub target-found : (trail : List ℕ) (o : Option ℕ) (p : ℕ) → o ≡ Some p → list_any (λ q. eqb q p) trail ≡ false → (MAX_OPEN_FILES - length trail ≡ 0 → ⊥) →
      target_walk (deeper folder reads kind service (MAX_OPEN_FILES - length trail)) trail o
      ≡ Ok (p, walk folder reads kind service (MAX_OPEN_FILES - length (trail ++ p ∷ [])) (trail ++ p ∷ []) p)
  target-found trail o p some absent free =
      let longer : length (trail ++ p ∷ []) ≡ length trail + 1 = length-append trail (p ∷ []) in
      let room : MAX_OPEN_FILES - length trail ≡ suc (MAX_OPEN_FILES - length (trail ++ p ∷ [])) = omega arith in
      rw (some, absent, room) refl

  -- a fault that is noted leads on; one that is not ends the walk
  fault-noted : (on : Bool) (n n' : Count) (i : Items) (file line : ℕ) (found : Result (ℕ × Walk) FaultKind) (fault : FaultKind) → found ≡ Err fault →
      ending on n (fault_at file line fault) ≡ None → n' ≡ with_fault (fault_at file line fault) n →
      IsErrAnd found (λ fault. Passes on n i (failed (fault_at file line fault)) n' i)
  unfolding account
  fault-noted on n n' i file line found fault is goes new = rw (is, new) record {
    accounted = λ rest. rw goes refl;
    counted = omega arith;
    added = sym (joined-End i);
  }

  fault-ends : (on : Bool) (n n' : Count) (file line : ℕ) (found : Result (ℕ × Walk) FaultKind) (fault : FaultKind) (e : ConfError) → found ≡ Err fault →
      UnlessMemory e e.kind ((ending on n (fault_at file line fault) ≡ Some e) × (n' ≡ n)) → Refuses on n (include_walk file line found) n' e
  unfolding account
  fault-ends on n n' file line found fault e is = unless-weaker e e.kind (λ h rest. rw (is, h.0, h.1) refl)

  -- what is done about a fault
  pub meets : (on : Bool) (n n' : Count) (i : Items) (file line : ℕ) (found : Result (ℕ × Walk) FaultKind) (fault : FaultKind)
      (result : Result (Option ℕ) ConfError) → found ≡ Err fault →
      IfOk result (λ o. (o ≡ None) × (ending on n (fault_at file line fault) ≡ None) × (n' ≡ with_fault (fault_at file line fault) n)) →
      IfErr result (λ e. UnlessMemory e e.kind ((ending on n (fault_at file line fault) ≡ Some e) × (n' ≡ n))) →
      MatchResult result (λ o. MatchOption o (IsErrAnd found (λ fault. Passes on n i (failed (fault_at file line fault)) n' i))
      (λ position. IsOkAnd found (λ t. (t.0 ≡ position) × Passes on n i (followed file line t) n' i)))
      (λ e. Refuses on n (include_walk file line found) n' e)
  meets on n n' i file line found fault (Ok o) is ok err = rw ok.0 (fault-noted on n n' i file line found fault is ok.1 ok.2)
  meets on n n' i file line found fault (Err e) is ok err = fault-ends on n n' file line found fault e is err

  passes-followed : (on : Bool) (n n' : Count) (file line target : ℕ) (i i' : Items) (w : Walk) → (n.follows ≡ MAX_FOLLOWS → ⊥) →
      Passes on (with_follow on target n) i w n' i' → Passes on n i (followed file line (target, w)) n' i'
  unfolding account
  passes-followed on n n' file line target i i' w few p = record {
    accounted = λ rest. rw (ne_eqb n.follows MAX_FOLLOWS few) (p.accounted rest);
    counted = p.counted;
    added = p.added;
  }

  refuses-followed : (on : Bool) (n n' : Count) (file line target : ℕ) (w : Walk) (e : ConfError) → (n.follows ≡ MAX_FOLLOWS → ⊥) →
      Refuses on (with_follow on target n) w n' e → Refuses on n (followed file line (target, w)) n' e
  unfolding account
  refuses-followed on n n' file line target w e few = unless-weaker e e.kind (λ h rest. rw (ne_eqb n.follows MAX_FOLLOWS few) (h rest))

  pub too_many_followed : (on : Bool) (n : Count) (file line : ℕ) (trail : List ℕ) (o : Option ℕ) (p : ℕ) (e : ConfError) → o ≡ Some p →
      list_any (λ q. eqb q p) trail ≡ false → (MAX_OPEN_FILES - length trail ≡ 0 → ⊥) → n.follows ≡ MAX_FOLLOWS → e ≡ fault_at file line TooManyFollowed →
      Refuses on n (include_walk file line (target_walk (deeper folder reads kind service (MAX_OPEN_FILES - length trail)) trail o)) n e
  unfolding account
  too_many_followed on n file line trail o p e some absent free many is = rw (target-found trail o p some absent free, many, is) (λ rest. refl)

  pub follow-refused : (on : Bool) (n n1 n' : Count) (file line : ℕ) (trail longer : List ℕ) (o : Option ℕ) (p : ℕ) (e : ConfError) → o ≡ Some p →
      list_any (λ q. eqb q p) trail ≡ false → (MAX_OPEN_FILES - length trail ≡ 0 → ⊥) → (n.follows ≡ MAX_FOLLOWS → ⊥) → longer ≡ trail ++ p ∷ [] →
      n1 ≡ with_follow on p n → Refuses on n1 (walk folder reads kind service (MAX_OPEN_FILES - length longer) longer p) n' e →
      Refuses on n (include_walk file line (target_walk (deeper folder reads kind service (MAX_OPEN_FILES - length trail)) trail o)) n' e
  follow-refused on n n1 n' file line trail longer o p e some absent free few more next r =
      rw (target-found trail o p some absent free) (refuses-followed on n n' file line p
      (walk folder reads kind service (MAX_OPEN_FILES - length (trail ++ p ∷ [])) (trail ++ p ∷ []) p) e few
      (subst (λ (l : List ℕ). Refuses on (with_follow on p n) (walk folder reads kind service (MAX_OPEN_FILES - length l) l p) n' e) more
      (subst (λ (m : Count). Refuses on m (walk folder reads kind service (MAX_OPEN_FILES - length longer) longer p) n' e) next r)))

  pub follow-done : (on : Bool) (n n1 n' : Count) (file line : ℕ) (i i' : Items) (trail longer : List ℕ) (o : Option ℕ) (p : ℕ) → o ≡ Some p →
      list_any (λ q. eqb q p) trail ≡ false → (MAX_OPEN_FILES - length trail ≡ 0 → ⊥) → (n.follows ≡ MAX_FOLLOWS → ⊥) → longer ≡ trail ++ p ∷ [] →
      n1 ≡ with_follow on p n → Passes on n1 i (walk folder reads kind service (MAX_OPEN_FILES - length longer) longer p) n' i' →
      IsOkAnd (target_walk (deeper folder reads kind service (MAX_OPEN_FILES - length trail)) trail o)
      (λ t. (t.0 ≡ p) × Passes on n i (followed file line t) n' i')
  follow-done on n n1 n' file line i i' trail longer o p some absent free few more next q =
      rw (target-found trail o p some absent free) (
        refl,
        passes-followed on n n' file line p i i'
            (walk folder reads kind service (MAX_OPEN_FILES - length (trail ++ p ∷ [])) (trail ++ p ∷ []) p) few
            (subst (λ (l : List ℕ). Passes on (with_follow on p n) i (walk folder reads kind service (MAX_OPEN_FILES - length l) l p) n' i') more
            (subst (λ (m : Count). Passes on m i (walk folder reads kind service (MAX_OPEN_FILES - length longer) longer p) n' i') next q)),
      )

  -- FILES

  pub walk-file : (room : ℕ) (trail : List ℕ) (file : ℕ) → walk folder reads kind service room trail file
      ≡ file_walk folder reads kind service (deeper folder reads kind service room) trail file
  unfolding walk
  walk-file zero trail file = refl
  walk-file (suc room) trail file = refl

  -- rules that do not count do not change the walk
  module _ (test : RuleText → Bool) (all : (r : RuleText) → counts kind service r ≡ true → test r ≡ true) where
    uncounted : (r : RuleText) → test r ≡ false → counts kind service r ≡ false
    uncounted r e = elim (counts kind service r) as (λ (t : Bool). counts kind service r ≡ t → t ≡ false) [
      | true ↦ λ c. absurd (false≢true (sym e ∙ all r c))
      | false ↦ λ c. refl
    ] refl

    rules_walk-only : (d : Deeper) (trail : List ℕ) (file : ℕ) (rules : List RuleText) →
        rules_walk folder reads kind service d trail file (filter test rules) ≡ rules_walk folder reads kind service d trail file rules
    rules_walk-only d trail file [] = refl
    rules_walk-only d trail file (r ∷ rules) =
        elim (test r) as (λ (t : Bool). test r ≡ t →
        rules_walk folder reads kind service d trail file (cond t (r ∷ filter test rules) (filter test rules))
        ≡ rule_walk folder reads kind service d trail file r then rules_walk folder reads kind service d trail file rules) [
          | true ↦ λ e. ap (λ w. rule_walk folder reads kind service d trail file r then w) (rules_walk-only d trail file rules)
          | false ↦ λ e. rules_walk-only d trail file rules ∙ sym (rw (uncounted r e) refl)
        ] refl

    pub read_walk-only : (d : Deeper) (trail : List ℕ) (file : ℕ) (r : Result (List RuleText) RuleFault) (rules : List RuleText) →
        in_file file (only test r) ≡ Ok rules → read_walk folder reads kind service d trail file r ≡ rules_walk folder reads kind service d trail file rules
    read_walk-only d trail file (Ok all) rules e = sym (rules_walk-only d trail file all) ∙ ap (rules_walk folder reads kind service d trail file) (cc)
    read_walk-only d trail file (Err fault) rules e = absurd (cc)

  read_walk-kept : (d : Deeper) (trail : List ℕ) (file : ℕ) (r : Result (List RuleText) RuleFault) (rules : List RuleText) →
      in_file file (of_kind kind r) ≡ Ok rules → read_walk folder reads kind service d trail file r ≡ rules_walk folder reads kind service d trail file rules
  read_walk-kept d trail file r rules e =
      read_walk-only (is_of_kind kind) (λ x c. (and_parts (is_of_kind kind x) (option_map_or (λ name. carries name x) service true) c).0) d trail file r rules e

  -- an open file is walked by the rules of the kind
  pub walk-kept : (room : ℕ) (trail : List ℕ) (file : ℕ) (rules : List RuleText) → in_file file (of_kind kind (reads file)) ≡ Ok rules →
      walk folder reads kind service room trail file ≡ rules_walk folder reads kind service (deeper folder reads kind service room) trail file rules
  walk-kept room trail file rules e = walk-file room trail file ∙ read_walk-kept (deeper folder reads kind service room) trail file (reads file) rules e

  -- a file is walked by rules that were read before, if they have its walk
  pub walk-read : (trail : List ℕ) (file : ℕ) (rules : List KeptRule) → IsRead folder reads kind service file (Some rules) →
      walk folder reads kind service (MAX_OPEN_FILES - length trail) trail file
      ≡ rules_walk folder reads kind service (deeper folder reads kind service (MAX_OPEN_FILES - length trail)) trail file (map kept_view rules)
  walk-read trail file rules h =
      let room = MAX_OPEN_FILES - length trail in
      walk-file room trail file ∙ h (deeper folder reads kind service room) trail

  -- rules, as the code stores them
  pub file-walked : (on : Bool) (n n' : Count) (i i' : Items) (trail : List ℕ) (file : ℕ) (rules slice : List KeptRule) →
      in_file file (of_kind kind (reads file)) ≡ Ok (map kept_view rules) → slice ≡ rules →
      Passes on n i (rules_walk folder reads kind service (deeper folder reads kind service (MAX_OPEN_FILES - length trail)) trail file
      (map kept_view slice)) n' i' →
      Passes on n i (walk folder reads kind service (MAX_OPEN_FILES - length trail) trail file) n' i'
  file-walked on n n' i i' trail file rules slice read same p =
      rw (walk-kept (MAX_OPEN_FILES - length trail) trail file (map kept_view rules) read)
      (subst (λ (rs : List KeptRule). Passes on n i (rules_walk folder reads kind service (deeper folder reads kind service
      (MAX_OPEN_FILES - length trail)) trail file
      (map kept_view rs)) n' i') same p)

  pub file-rules_refused : (on : Bool) (n n' : Count) (trail : List ℕ) (file : ℕ) (rules slice : List KeptRule) (e : ConfError) →
      in_file file (of_kind kind (reads file)) ≡ Ok (map kept_view rules) → slice ≡ rules →
      Refuses on n (rules_walk folder reads kind service (deeper folder reads kind service (MAX_OPEN_FILES - length trail)) trail file (map kept_view slice))
      n' e → Refuses on n (walk folder reads kind service (MAX_OPEN_FILES - length trail) trail file) n' e
  file-rules_refused on n n' trail file rules slice e read same r =
      rw (walk-kept (MAX_OPEN_FILES - length trail) trail file (map kept_view rules) read)
      (subst (λ (rs : List KeptRule). Refuses on n (rules_walk folder reads kind service (deeper folder reads kind service
      (MAX_OPEN_FILES - length trail)) trail file
      (map kept_view rs)) n' e) same r)

  read_refused : (on : Bool) (n : Count) (d : Deeper) (trail : List ℕ) (file : ℕ) (r : Result (List RuleText) RuleFault) (e : ConfError) →
      on ≡ false → in_file file (of_kind kind r) ≡ Err e → (rest : List Event) →
      account on n ((read_walk folder reads kind service d trail file r).events ++ rest) ≡ ended_by n e
  unfolding account ending
  read_refused on n d trail file (Ok all) e ends h rest = absurd (cc)
  read_refused on n d trail file (Err fault) e ends h rest = let same : fault_at file fault.line fault.kind ≡ e = cc in rw (ends, same) refl

  -- a file with a fault is refused, unless the walk goes on
  pub file-refused : (on : Bool) (n : Count) (room : ℕ) (trail : List ℕ) (file : ℕ) (e : ConfError) → on ≡ false →
      UnlessMemory e e.kind (in_file file (of_kind kind (reads file)) ≡ Err e) → Refuses on n (walk folder reads kind service room trail file) n e
  file-refused on n room trail file e ends =
      unless-weaker e e.kind (λ h rest. ap (λ (w : Walk). account on n (w.events ++ rest)) (walk-file room trail file)
      ∙ read_refused on n (deeper folder reads kind service room) trail file (reads file) e ends h rest)

  -- a file is walked by the rules that are read of it
  pub walk-rules : (room : ℕ) (trail : List ℕ) (file : ℕ) (rules : List RuleText) → reads file ≡ Ok rules →
      rules_walk folder reads kind service (deeper folder reads kind service room) trail file rules ≡ walk folder reads kind service room trail file
  walk-rules room trail file rules e =
      sym (walk-file room trail file ∙ ap (read_walk folder reads kind service (deeper folder reads kind service room) trail file) e)

-- the walk of rules, as the code stores them, in an open file
abbrev pub walk_of : Folder → Reads → Kind → Option (List ℕ) → List ℕ → ℕ → List KeptRule → Walk
walk_of folder reads kind service trail file rules =
    rules_walk folder reads kind service (deeper folder reads kind service (MAX_OPEN_FILES - length trail)) trail file (map kept_view rules)

-- the rules that are left: the next one, and those after it
pub walk-more : (folder : Folder) (reads : Reads) (kind : Kind) (service : Option (List ℕ)) (trail : List ℕ) (file : ℕ) (rules : List KeptRule)
    (k : ℕ) (r : KeptRule) →
    k < length rules → r ≡ get_or rules k r →
    walk_of folder reads kind service trail file (drop k rules) ≡ rule_walk folder reads kind service (deeper folder reads kind service
    (MAX_OPEN_FILES - length trail)) trail
    file (kept_view r) then walk_of folder reads kind service trail file (drop (k + 1) rules)
walk-more folder reads kind service trail file rules k r within is =
    let next : drop k rules ≡ r ∷ drop (k + 1) rules = rw add-one (drop-cons rules k r within ∙ ap (λ (x : KeptRule). x ∷ drop (suc k) rules) (sym is)) in
    ap (walk_of folder reads kind service trail file) next

position_found : (n len p : ℕ) → cond (ltb n len) (Some n) None ≡ Some p → p < len
position_found n len p h = let parts = cond_some (ltb n len) n p h in let q : n < len = ltb-true n len parts.0 in omega (arith, parts.1)

-- a position that is found is that of a file
pub position-within : (name : List ℕ) (folder : Folder) (p : ℕ) → position_of name folder.entries ≡ Some p → p < length folder.entries
position-within name folder p h = position_found (position_or_len (λ f. bytes_eq name f.0) folder.entries) (length folder.entries) p h

-- rules read without a fault are those of the kind
pub kept-read : (kind : Kind) (file : ℕ) (r : Result (List RuleText) RuleFault) (rules : List RuleText) → in_file file (of_kind kind r) ≡ Ok rules →
    of_kind kind r ≡ Ok rules
kept-read kind file (Ok all) rules e = let same : filter (is_of_kind kind) all ≡ rules = cc in ap Ok same
kept-read kind file (Err fault) rules e = absurd (cc)
