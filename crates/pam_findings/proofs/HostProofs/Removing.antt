-- Findings that are removed.
use Rattle.std.proofs.Common.{◌≡◌, ◌⊎◌, ◌↔◌, ℕ, ◌+◌, ◌<◌, ◌≤◌, List, take, length, get_or, refl, ◌∙◌, inl, inr}
use Rattle.pam_text.specs.Members.{Member}
use Rattle.pam_findings.specs.host.inner.Table.{Removes, Table}
use Rattle.pam_findings.specs.declared.host.problem.Spot.{Spot}
use Rattle.pam_findings.proofs.HostProofs.Passes.{all_so_far, none_yet, one_more}

removes-iff : (A B : Spot → Type 0) (old new : Table) → ((spot : Spot) → A spot ↔ B spot) → Removes A old new → Removes B old new
removes-iff A B old new same h = record {
  each = λ spot. elim (h.each spot) [
    | inl a ↦ inl ((same spot).0 a.0, a.1)
    | inr n ↦ inr ((λ b. n.0 ((same spot).1 b)), n.1)
  ];
  placed = h.placed;
}

removes-both : (A B : Spot → Type 0) (old middle new : Table) → Removes A old middle → Removes B middle new → Removes (λ spot. A spot ⊎ B spot) old new
removes-both A B old middle new h k = record {
  each = λ spot. elim (k.each spot) [
    | inl b ↦ inl (inr b.0, b.1)
    | inr nb ↦ elim (h.each spot) [
      | inl a ↦ inl (inl a.0, nb.1 ∙ a.1)
      | inr na ↦ inr ((λ w. elim w [ inl x ↦ na.0 x | inr y ↦ nb.0 y ]), nb.1 ∙ na.1)
    ]
  ];
  placed = λ were. k.placed (h.placed were);
}

pub removes-start : (spots : List Spot) (table : Table) → Removes (λ spot. Member spot (take 0 spots)) table table
removes-start spots table = record { each = λ spot. inr (none_yet spot spots, refl); placed = λ h. h }

pub removes-more : (spots : List Spot) (n : ℕ) (spot d : Spot) (old middle new : Table) → n < length spots → spot ≡ get_or spots n d →
    Removes (λ other. Member other (take n spots)) old middle → Removes (λ other. other ≡ spot) middle new →
    Removes (λ other. Member other (take (n + 1) spots)) old new
removes-more spots n spot d old middle new within is h k =
    removes-iff (λ other. Member other (take n spots) ⊎ (other ≡ spot)) (λ other. Member other (take (n + 1) spots)) old new
    (λ other. one_more other spot d spots n within is)
    (removes-both (λ other. Member other (take n spots)) (λ other. other ≡ spot) old middle new h k)

pub removes-end : (spots : List Spot) (n : ℕ) (old new : Table) → length spots ≤ n → Removes (λ other. Member other (take n spots)) old new →
    Removes (λ other. Member other spots) old new
removes-end spots n old new all h =
    removes-iff (λ other. Member other (take n spots)) (λ other. Member other spots) old new (λ other. all_so_far other spots n all) h
