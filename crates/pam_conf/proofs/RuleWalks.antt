-- The walk of one rule.
use Rattle.std.proofs.Common.{◌≡◌, ◌+◌, ℕ, Bool, true, false, List, Option, Some, None, Result, Ok, Err, IsErrAnd, IsOkAnd, MatchOption, ap, subst}
use Rattle.std.proofs.Common.{sym, refl, ◌∙◌, arith}
use Rattle.std.proofs.lemmas.Bool.{ne_eqb}
use Rattle.pam_codes.specs.declared.action.Action.{Action}
use Rattle.pam_conf.specs.Files.{Folder, position_of}
use Rattle.pam_conf.specs.inner.Progress.{Count, Passes, Refuses, account, with_module}
use Rattle.pam_conf.specs.Rule.{RuleText, Module, Include, Sub}
use Rattle.pam_conf.specs.Stack.{Items, End, ThenModule, ThenSub, joined}
use Rattle.pam_conf.specs.Walk.{Walk, Deeper, Reads, numbered, failed, followed, fault_at, target_walk, include_walk, sub_walk, rule_walk, counts}
use Rattle.pam_conf.specs.declared.conf_error.ConfError.{ConfError}
use Rattle.pam_conf.specs.declared.error.FaultKind.{FaultKind}
use Rattle.pam_conf.specs.declared.error.FaultKind.TheVariants.{TooManyModules}
use Rattle.pam_conf.specs.declared.rule.Kind.{Kind}
use Rattle.pam_conf.specs.declared.stack.TheConstants.{MAX_MODULES}
use Rattle.pam_conf.proofs.StackTree.{joined-End}
use Rattle.pam_conf.proofs.WalkLemmas.{passes-nothing}

abbrev pub MayFollow : Bool → Count → Count → ℕ → ℕ → Items → Items → Result (ℕ × Walk) FaultKind → ℕ → Type 0
MayFollow on n n' file line i i' found position = IsOkAnd found (λ t. (t.0 ≡ position) × Passes on n i (followed file line t) n' i')

-- a fault in the place of a target is noted
abbrev pub MayFail : Bool → Count → Count → ℕ → ℕ → Items → Items → Result (ℕ × Walk) FaultKind → Type 0
MayFail on n n' file line i i' found = IsErrAnd found (λ fault. Passes on n i (failed (fault_at file line fault)) n' i')

follow-passes : (on : Bool) (n n' : Count) (file line : ℕ) (i i' : Items) (found : Result (ℕ × Walk) FaultKind) (o : Option ℕ) →
    MatchOption o (MayFail on n n' file line i i' found) (MayFollow on n n' file line i i' found) → Passes on n i (include_walk file line found) n' i'
follow-passes on n n' file line i i' (Err fault) None h = h
follow-passes on n n' file line i i' (Err fault) (Some position) h = absurd h
follow-passes on n n' file line i i' (Ok t) None h = absurd h
follow-passes on n n' file line i i' (Ok t) (Some position) h = h.1

sub-passes : (on : Bool) (n n' : Count) (file line : ℕ) (i i' j : Items) (found : Result (ℕ × Walk) FaultKind) (position : ℕ) →
    MayFollow on n n' file line End j found position →
    i' ≡ joined i (ThenSub record { file = file; line = line; target = position } j End) → Passes on n i (sub_walk file line found) n' i'
sub-passes on n n' file line i i' j (Err kind) position h e = absurd h
sub-passes on n n' file line i i' j (Ok t) position h e = record {
  accounted = h.1.accounted;
  counted = omega (arith, h.1.counted);
  added =
      e ∙ ap (λ k. joined i (ThenSub record { file = file; line = line; target = position } k End)) h.1.added
      ∙ ap (λ p. joined i (ThenSub record { file = file; line = line; target = p } (numbered (n.modules + 1) t.1.items) End)) (sym h.0);
}

-- a substack whose target has a fault is no item
sub-fails : (on : Bool) (n n' : Count) (file line : ℕ) (i i' j j0 : Items) (found : Result (ℕ × Walk) FaultKind) →
    MayFail on n n' file line j0 j found → i' ≡ i → Passes on n i (sub_walk file line found) n' i'
sub-fails on n n' file line i i' j j0 (Err kind) h e = record {
  accounted = h.accounted;
  counted = h.counted;
  added = e ∙ sym (joined-End i);
}
sub-fails on n n' file line i i' j j0 (Ok t) h e = absurd h

sub-refused : (on : Bool) (n n' : Count) (file line : ℕ) (found : Result (ℕ × Walk) FaultKind) (e : ConfError) →
    Refuses on n (include_walk file line found) n' e → Refuses on n (sub_walk file line found) n' e
sub-refused on n n' file line (Err kind) e h = h
sub-refused on n n' file line (Ok t) e h = h

module _ (folder : Folder) (reads : Reads) (kind : Kind) (service : Option (List ℕ)) (d : Deeper) (trail : List ℕ) (file : ℕ) (r : RuleText) where
  abbrev rule_walked : Walk
  rule_walked = rule_walk folder reads kind service d trail file r

  -- what is found for a target
  abbrev found_for : List ℕ → Result (ℕ × Walk) FaultKind
  found_for target = target_walk d trail (position_of target folder.entries)

  pub rule-passed : (on : Bool) (n : Count) (i : Items) → counts kind service r ≡ false → Passes on n i rule_walked n i
  rule-passed on n i h = rw h (passes-nothing on n i)

  module _ (own : counts kind service r ≡ true) (on : Bool) (n : Count) where
    pub rule-full : (control : List Action) (path : List ℕ) (arguments : List (List ℕ)) (e : ConfError) → r.body ≡ Module control path arguments →
        n.modules ≡ MAX_MODULES → e ≡ fault_at file r.line TooManyModules → Refuses on n rule_walked n e
    unfolding account
    rule-full control path arguments e body many is = rw (own, body, many, is) (λ rest. refl)

    pub rule-module : (i i' : Items) (control : List Action) (path : List ℕ) (arguments : List (List ℕ)) → r.body ≡ Module control path arguments →
        (n.modules ≡ MAX_MODULES → ⊥) →
        i' ≡ joined i (ThenModule record {
          number = n.modules + 1;
          dashed = r.dashed;
          control = control;
          path = path;
          arguments = arguments;
          file = file;
          line =
              r.line;
        } End) → Passes on n i rule_walked (with_module n) i'
    unfolding account
    rule-module i i' control path arguments body few e = rw (own, body) record {
      accounted = λ rest. rw (ne_eqb n.modules MAX_MODULES few) refl;
      counted = omega arith;
      added = e;
    }

    module _ (n' : Count) (target : List ℕ) where
      pub rule-include : (i i' : Items) (o : Option ℕ) → r.body ≡ Include target →
          MatchOption o (MayFail on n n' file r.line i i' (found_for target)) (MayFollow on n n' file r.line i i' (found_for target)) →
          Passes on n i rule_walked n' i'
      rule-include i i' o body h = rw (own, body) (follow-passes on n n' file r.line i i' (found_for target) o h)

      pub rule-include_refused : (e : ConfError) → r.body ≡ Include target → Refuses on n (include_walk file r.line (found_for target)) n' e →
          Refuses on n rule_walked n' e
      rule-include_refused e body h = rw (own, body) h

      pub rule-sub : (i i' j0 j : Items) (position : ℕ) → r.body ≡ Sub target → j0 ≡ End → MayFollow on n n' file r.line j0 j (found_for target) position →
          i' ≡ joined i (ThenSub record { file = file; line = r.line; target = position } j End) → Passes on n i rule_walked n' i'
      rule-sub i i' j0 j position body none h e =
          rw (own, body) (sub-passes on n n' file r.line i i' j (found_for target) position
          (subst (λ k. MayFollow on n n' file r.line k j (found_for target) position) none h) e)

      pub rule-sub_fails : (i i' j0 j : Items) → r.body ≡ Sub target → MayFail on n n' file r.line j0 j (found_for target) → i' ≡ i →
          Passes on n i rule_walked n' i'
      rule-sub_fails i i' j0 j body h e = rw (own, body) (sub-fails on n n' file r.line i i' j j0 (found_for target) h e)

      pub rule-sub_refused : (e : ConfError) → r.body ≡ Sub target → Refuses on n (include_walk file r.line (found_for target)) n' e →
          Refuses on n rule_walked n' e
      rule-sub_refused e body h = rw (own, body) (sub-refused on n n' file r.line (found_for target) e h)
