-- Modules that store a new password after a module that checks it has failed.
use Rattle.std.proofs.Common.{◌≡◌, ◌⊎◌, ◌≤◌, ℕ, ◌==◌, ◌&&◌, Bool, true, false, not, List, [], ◌∷◌, Option, refl, sym, ◌∙◌, ap, subst, inl, inr, arith}
use Rattle.std.specs.Option.{option_map_or}
use Rattle.std.proofs.lemmas.Bool.{eq-eqb, eqb-true, false≢true}
use Rattle.pam_codes.specs.Code.{all_codes, ignored, new_authtok_reqd, success}
use Rattle.pam_codes.specs.Set.{codes_where, is_in}
use Rattle.pam_conf.specs.Stack.{IsNumbered, ModuleText, module_at}
use Rattle.pam_conf.specs.declared.rule.Kind.{Kind}
use Rattle.pam_conf.specs.declared.rule.Kind.TheVariants.{Password}
use Rattle.pam_paths.specs.Known.{may_answer}
use Rattle.pam_findings.specs.host.Storing.{FailsBefore, failures, refuses}
use Rattle.pam_findings.specs.host.Verdicts.{Judgement}
use Rattle.pam_findings.specs.host.inner.Looked.{OfModules}
use Rattle.pam_findings.specs.host.inner.Storing.{AreRefusing, IsStored, StoredIn}
use Rattle.pam_findings.specs.host.inner.Table.{Adds}
use Rattle.pam_findings.specs.stack.Leading.{Leads}
use Rattle.pam_findings.specs.stack.inner.Leading.{SaysLeads}
use Rattle.pam_findings.specs.stack.inner.Marks.{mark_of}
use Rattle.pam_findings.specs.declared.host.problem.Problem.TheVariants as problems
use Rattle.pam_findings.specs.declared.host.problem.Spot.{Spot}
use Rattle.pam_findings.specs.declared.host.refusing.Refuser.{Refuser}
use Rattle.pam_findings.specs.declared.host.refusing.Refuser.TheVariants.{Cracklib, Passwdqc, Pwhistory, Pwquality}
use Rattle.pam_findings.proofs.HostProofs.Adding.{adds-both, adds-iff, adds-none, numbered}
use Rattle.pam_findings.proofs.HostProofs.Tokens.{passing-rule}
use Rattle.pam_findings.proofs.StackProofs.NeverCounting.{asks-range}

-- FAILURES

abbrev without : List ℕ → List ℕ → List ℕ
without some others = codes_where (λ code. is_in code some && not (is_in code others))

pub failures-without : (all one two three first second third : List ℕ) → all ≡ all_codes → one ≡ success ∷ [] → two ≡ new_authtok_reqd ∷ [] →
    three ≡ ignored ∷ [] → first ≡ without all one → second ≡ without first two → third ≡ without second three → third ≡ failures
unfolding failures all_codes
failures-without all one two three first second third a e f g h k l =
    l ∙ ap (λ (s : List ℕ). without s three) (k ∙ ap (λ (s : List ℕ). without s two) (h ∙ ap (λ (s : List ℕ). without s one) a))
    ∙ ap (λ (o : List ℕ). without (without (without all_codes o) two) three) e
    ∙ ap (λ (o : List ℕ). without (without (without all_codes (success ∷ [])) o) three) f
    ∙ ap (λ (o : List ℕ). without (without (without all_codes (success ∷ [])) (new_authtok_reqd ∷ [])) o) g

-- WHETHER ONE THAT MAY REFUSE FAILS BEFORE

module _ (by : Refuser) (j : Judgement) (number : ℕ) (refusing later : List Bool) (is : IsNumbered j.items) (are : AreRefusing by j.items refusing)
    (one : (n : ℕ) → 1 ≤ n → mark_of later n ≡ (n == number)) where
  abbrev Says : Bool → Type 0
  Says t = SaysLeads (may_answer j.free) j.items refusing failures later t

  pub some-fails : (t : Bool) → Says t → t ≡ true → FailsBefore by j number
  some-fails false says e = absurd (false≢true e)
  some-fails true says e =
      let l = says.4 in
      let range = asks-range (may_answer j.free) j.items says.0 is l.asks in
      let found = passing-rule (refuses by) (module_at says.0 j.items) (sym (are says.0 range.0) ∙ says.2) in
      let at : says.1 ≡ number = eqb-true says.1 number (sym (one says.1 (omega (arith, l.order))) ∙ says.3) in
      (says.0, found.0, found.1, found.2, subst (Leads (may_answer j.free) j.items failures says.0) at l)

  pub none-fails : (t : Bool) → 1 ≤ number → Says t → t ≡ false → FailsBefore by j number → ⊥
  none-fails true low says e f = false≢true (sym e)
  none-fails false low says e f =
      let range = numbered j.items f.0 f.1 is f.2 in
      says f.0 number
      (are f.0 range.0 ∙ ap (λ (o : Option ModuleText). option_map_or (refuses by) o false) f.2 ∙ f.3)
      (one number low ∙ eq-eqb number number refl) f.4

-- S21

module _ (kind : Kind) (j : Judgement) where
  abbrev Of : Refuser → Spot → Type 0
  Of by = OfModules (problems.StoredThoughRefused by) j.items (IsStored by j)

  abbrev Each : Spot → Type 0
  Each spot = ((Of Cracklib spot ⊎ Of Passwdqc spot) ⊎ Of Pwhistory spot) ⊎ Of Pwquality spot

  to-each : (by : Refuser) (spot : Spot) → Of by spot → Each spot
  to-each Cracklib spot m = inl (inl (inl m))
  to-each Passwdqc spot m = inl (inl (inr m))
  to-each Pwhistory spot m = inl (inr m)
  to-each Pwquality spot m = inr m

  from-each : kind ≡ Password → (spot : Spot) → Each spot → StoredIn kind j spot
  from-each password spot (inl (inl (inl m))) = record { password = password; by = Cracklib; of = m }
  from-each password spot (inl (inl (inr m))) = record { password = password; by = Passwdqc; of = m }
  from-each password spot (inl (inr m)) = record { password = password; by = Pwhistory; of = m }
  from-each password spot (inr m) = record { password = password; by = Pwquality; of = m }

  pub adds-stored : (old first second third new : List Spot) → kind ≡ Password → Adds (Of Cracklib) old first → Adds (Of Passwdqc) first second →
      Adds (Of Pwhistory) second third → Adds (Of Pwquality) third new → Adds (StoredIn kind j) old new
  adds-stored old first second third new password a b c d =
      adds-iff Each (StoredIn kind j) old new (λ spot. (from-each password spot, λ s. to-each s.by spot s.of))
      (adds-both (λ spot. (Of Cracklib spot ⊎ Of Passwdqc spot) ⊎ Of Pwhistory spot) (Of Pwquality) old third new
      (adds-both (λ spot. Of Cracklib spot ⊎ Of Passwdqc spot) (Of Pwhistory) old second third
      (adds-both (Of Cracklib) (Of Passwdqc) old first second a b) c) d)

  pub adds-not-stored : (spots : List Spot) → (kind ≡ Password → ⊥) → Adds (StoredIn kind j) spots spots
  adds-not-stored spots other = adds-none (StoredIn kind j) spots (λ spot s. other s.password)
