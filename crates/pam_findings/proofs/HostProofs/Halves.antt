-- Rules of pam_faillock with one of its tasks.
use Rattle.std.proofs.Common.{◌≡◌, ◌≤◌, ◌∙◌, ℕ, ◌+◌, arith, Bool, true, false, not, List, Option, None, Some, refl, sym, ap, subst, inl, inr}
use Rattle.std.specs.Prelude.{◌==◌, IsFalse, IsTrue}
use Rattle.std.specs.List.{list_any}
use Rattle.std.specs.Option.{option_map_or}
use Rattle.std.proofs.lemmas.Bool.{cases_eq, eq-eqb, eqb-true, false≢true}
use Rattle.pam_conf.specs.Stack.{IsNumbered, Items, ModuleText, module_at, module_count}
use Rattle.pam_text.specs.Members.{Member}
use Rattle.pam_paths.proofs.Alike.{list_any_back, list_any_from}
use Rattle.pam_findings.specs.host.Faillock.{has_task}
use Rattle.pam_findings.specs.host.inner.Halves.{HalfIn, HasTaskAt, NoneIn}
use Rattle.pam_findings.specs.host.inner.Looked.{OfModules}
use Rattle.pam_findings.specs.host.inner.Table.{Adds}
use Rattle.pam_findings.specs.declared.host.problem.Problem.TheVariants as problems
use Rattle.pam_findings.specs.declared.host.problem.Spot.{Spot}
use Rattle.pam_findings.proofs.HostProofs.Adding.{adds-iff, adds-none, numbered}

pub listed-member : (number : ℕ) (numbers : List ℕ) → list_any (λ n. n == number) numbers ≡ true → Member number numbers
listed-member number numbers h =
    let k = list_any_back (λ n. n == number) numbers h in
    subst (λ n. Member n numbers) (eqb-true k.0 number k.2) k.1

pub member-listed : (number : ℕ) (numbers : List ℕ) → Member number numbers → list_any (λ n. n == number) numbers ≡ true
member-listed number numbers m = list_any_from (λ n. n == number) numbers number m (eq-eqb number number refl)

pub not-both : (b : Bool) → IsTrue (not b) → b ≡ true → ⊥
not-both true h k = false≢true h
not-both false h k = false≢true k

pub listed-if : (b : Bool) → IsFalse (not b) → b ≡ true
listed-if true h = refl
listed-if false h = sym h

-- none of the first modules with the task is asked
abbrev pub NoneSoFar : Items → List ℕ → Bool → ℕ → Type 0
NoneSoFar items never counts n = (number : ℕ) → 1 ≤ number → number ≤ n → HasTaskAt items counts number → Member number never

pub none-so-far-more : (items : Items) (never : List ℕ) (counts : Bool) (n : ℕ) → NoneSoFar items never counts n →
    (HasTaskAt items counts (n + 1) → Member (n + 1) never) → NoneSoFar items never counts (n + 1)
none-so-far-more items never counts n none last number low high has =
    elim (cases_eq number (n + 1)) [
      | inl e ↦ subst (λ m. Member m never) (sym e) (last (subst (HasTaskAt items counts) e has))
      | inr ne ↦ none number low (omega (arith, high, ne)) has
    ]

pub none-of-all : (items : Items) (never : List ℕ) (counts : Bool) (n : ℕ) → IsNumbered items → module_count items ≤ n → NoneSoFar items never counts n →
    NoneIn items never counts
none-of-all items never counts n is all none number rule there has =
    let range = numbered items number rule is there in
    none number range.0 (omega (arith, range.1, all)) (ap (λ o. option_map_or (has_task counts) o false) there ∙ has)

task-of : (counts : Bool) (o : Option ModuleText) → option_map_or (has_task counts) o false ≡ true → (rule : ModuleText) × (o ≡ Some rule)
    × (has_task counts rule ≡ true)
task-of counts None h = absurd (false≢true h)
task-of counts (Some rule) h = (rule, refl, h)

pub some-asked : (items : Items) (never : List ℕ) (counts : Bool) (number : ℕ) → HasTaskAt items counts number → (Member number never → ⊥) →
    NoneIn items never counts → ⊥
some-asked items never counts number has asked none =
    let k = task-of counts (module_at number items) has in
    asked (none number k.0 k.1 k.2)

pub adds-half : (items : Items) (never : List ℕ) (counts : Bool) (old new : List Spot) → NoneIn items never (not counts) →
    Adds (OfModules (problems.NotCounted counts) items (HasTaskAt items counts)) old new → Adds (HalfIn items never counts) old new
adds-half items never counts old new none h =
    adds-iff (OfModules (problems.NotCounted counts) items (HasTaskAt items counts)) (HalfIn items never counts) old new
    (λ spot. (λ m. record { none = none; of = m }, λ v. v.of)) h

pub adds-no-half : (items : Items) (never : List ℕ) (counts : Bool) (spots : List Spot) → (NoneIn items never (not counts) → ⊥) →
    Adds (HalfIn items never counts) spots spots
adds-no-half items never counts spots some = adds-none (HalfIn items never counts) spots (λ spot v. some v.none)
