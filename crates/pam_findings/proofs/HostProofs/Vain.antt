-- The modules of some numbers that pass a test.
use Rattle.std.proofs.Common.{◌≡◌, ◌⊎◌, ℕ, ◌+◌, ◌<◌, ◌≤◌, List, take, length, get_or, inl, inr, refl, subst}
use Rattle.pam_conf.specs.Stack.{Items}
use Rattle.pam_text.specs.Members.{Member}
use Rattle.pam_findings.specs.host.inner.Looked.{OfModule, OfModules}
use Rattle.pam_findings.specs.host.inner.Table.{Adds}
use Rattle.pam_findings.specs.declared.host.problem.Problem.{Problem}
use Rattle.pam_findings.specs.declared.host.problem.Spot.{Spot}
use Rattle.pam_findings.proofs.HostProofs.Adding.{adds-both, adds-iff, adds-none}
use Rattle.pam_findings.proofs.HostProofs.Passes.{all_so_far, none_yet, one_more}

module _ (problem : Problem) (items : Items) (Passes : ℕ → Type 0) (numbers : List ℕ) where
  -- of the first numbers
  abbrev pub OfFirst : ℕ → Spot → Type 0
  OfFirst n = OfModules problem items (λ m. Member m (take n numbers) × Passes m)

  pub passing-none : (spots : List Spot) → Adds (OfFirst 0) spots spots
  passing-none spots = adds-none (OfFirst 0) spots (λ spot m. none_yet m.number numbers m.one.0)

  pub passing-more : (n number d : ℕ) (old middle new : List Spot) → n < length numbers → number ≡ get_or numbers n d →
      Adds (OfFirst n) old middle → Adds (λ spot. Passes number × OfModule problem items number spot) middle new → Adds (OfFirst (n + 1)) old new
  passing-more n number d old middle new within is h k =
      let One : Spot → Type 0 = λ spot. Passes number × OfModule problem items number spot in
      adds-iff (λ spot. OfFirst n spot ⊎ One spot) (OfFirst (n + 1)) old new
      (λ spot. (
        λ w. elim w [
          | inl m ↦ record { number = m.number; one = ((one_more m.number number d numbers n within is).0 (inl m.one.0), m.one.1); of = m.of }
          | inr m ↦ record { number = number; one = ((one_more number number d numbers n within is).0 (inr refl), m.0); of = m.1 }
        ],
        λ m. elim ((one_more m.number number d numbers n within is).1 m.one.0) [
          | inl i ↦ inl record { number = m.number; one = (i, m.one.1); of = m.of }
          | inr e ↦ inr (subst (λ x. Passes x × OfModule problem items x spot) e (m.one.1, m.of))
        ],
      ))
      (adds-both (OfFirst n) One old middle new h k)

  pub passing-all : (n : ℕ) (old new : List Spot) → length numbers ≤ n → Adds (OfFirst n) old new →
      Adds (OfModules problem items (λ m. Member m numbers × Passes m)) old new
  passing-all n old new all h =
      adds-iff (OfFirst n) (OfModules problem items (λ m. Member m numbers × Passes m)) old new
      (λ spot. (
        λ m. record { number = m.number; one = ((all_so_far m.number numbers n all).0 m.one.0, m.one.1); of = m.of },
        λ m. record { number = m.number; one = ((all_so_far m.number numbers n all).1 m.one.0, m.one.1); of = m.of },
      ))
      h
