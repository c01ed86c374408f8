-- Rules of pam_faillock that count failures, and that no run asks after one.
use Rattle.std.proofs.Common.{◌≡◌, ℕ, ◌≤◌, ◌==◌, Bool, true, false, not, List, refl, sym, ◌∙◌, ap, subst, arith}
use Rattle.std.proofs.lemmas.Bool.{eq-eqb, eqb-true, false≢true}
use Rattle.pam_conf.specs.Stack.{IsNumbered, Items, module_count}
use Rattle.pam_conf.specs.declared.rule.Kind.{Kind}
use Rattle.pam_conf.specs.declared.rule.Kind.TheVariants.{Auth}
use Rattle.pam_dispatch.specs.State.{success}
use Rattle.pam_paths.specs.Known.{may_answer}
use Rattle.pam_paths.specs.declared.knowledge.Known.{Known}
use Rattle.pam_findings.specs.host.Faillock.{NoneFailsBefore}
use Rattle.pam_findings.specs.host.Storing.{failures}
use Rattle.pam_findings.specs.host.Verdicts.{Judgement}
use Rattle.pam_findings.specs.host.inner.Looked.{OfModules}
use Rattle.pam_findings.specs.host.inner.Table.{Adds}
use Rattle.pam_findings.specs.host.inner.Uncounted.{AreChecking, IsUncounted, UncountedIn}
use Rattle.pam_findings.specs.stack.Leading.{Leads}
use Rattle.pam_findings.specs.stack.inner.Leading.{SaysLeads}
use Rattle.pam_findings.specs.stack.inner.Marks.{mark_of}
use Rattle.pam_findings.specs.declared.host.problem.Problem.TheVariants as problems
use Rattle.pam_findings.specs.declared.host.problem.Spot.{Spot}
use Rattle.pam_findings.proofs.HostProofs.Adding.{adds-iff, adds-none}
use Rattle.pam_findings.proofs.HostProofs.Tokens.{MarkedSoFar}
use Rattle.pam_findings.proofs.StackProofs.NeverCounting.{asks-range}

pub all-checking : (items : Items) (failing : Known) (n : ℕ) (marks : List Bool) → module_count items ≤ n →
    MarkedSoFar (λ number. not (may_answer failing number success)) n marks → AreChecking items failing marks
all-checking items failing n marks all so_far number low high = so_far.done number low (omega (arith, high, all))

pub not-of : (b : Bool) → not b ≡ true → b ≡ false
not-of true h = absurd (false≢true h)
not-of false h = refl

-- WHETHER IT IS ASKED AFTER A FAILURE

module _ (j : Judgement) (number : ℕ) (checking later : List Bool) (is : IsNumbered j.items) (are : AreChecking j.items j.failing checking)
    (one : (n : ℕ) → 1 ≤ n → mark_of later n ≡ (n == number)) where
  abbrev Says : Bool → Type 0
  Says t = SaysLeads (may_answer j.free) j.items checking failures later t

  pub after-none : (t : Bool) → 1 ≤ number → Says t → t ≡ false → NoneFailsBefore j number
  after-none true low says e = absurd (false≢true (sym e))
  after-none false low says e = λ first checks l.
      let range = asks-range (may_answer j.free) j.items first is l.asks in
      says first number (are first range.0 range.1 ∙ ap not checks) (one number low ∙ eq-eqb number number refl) l

  pub after-some : (t : Bool) → Says t → t ≡ true → NoneFailsBefore j number → ⊥
  after-some false says e none = false≢true e
  after-some true says e none =
      let l = says.4 in
      let range = asks-range (may_answer j.free) j.items says.0 is l.asks in
      let checks = not-of (may_answer j.failing says.0 success) (sym (are says.0 range.0 range.1) ∙ says.2) in
      let at : says.1 ≡ number = eqb-true says.1 number (sym (one says.1 (omega (arith, l.order))) ∙ says.3) in
      none says.0 checks (subst (Leads (may_answer j.free) j.items failures says.0) at l)

-- S22

module _ (kind : Kind) (j : Judgement) (old new : List Spot) where
  abbrev Of : Spot → Type 0
  Of = OfModules problems.NoFailureCounted j.items (IsUncounted j)

  pub adds-uncounted : (is_included : Bool) → is_included ≡ false → kind ≡ Auth → Adds Of old new → Adds (UncountedIn is_included kind j) old new
  adds-uncounted is_included alone auth h =
      adds-iff Of (UncountedIn is_included kind j) old new (λ spot. (λ m. record { alone = alone; auth = auth; of = m }, λ u. u.of)) h

pub adds-no-uncounted : (is_included : Bool) (kind : Kind) (j : Judgement) (spots : List Spot) → (is_included ≡ false → kind ≡ Auth → ⊥) →
    Adds (UncountedIn is_included kind j) spots spots
adds-no-uncounted is_included kind j spots other = adds-none (UncountedIn is_included kind j) spots (λ spot u. other u.alone u.auth)
