-- The order of the places of problems.
use Rattle.std.proofs.Common.{ℕ, None, Option, Some, ap, nat_cmp, refl}
use Rattle.std.specs.Cmp.{IsTotalOrder}
use Rattle.std.specs.Cmp.Lexicographic.{options_total}
use Rattle.std.specs.Option.{option_cmp}
use Rattle.std.specs.Ordering.{ordering_then}
use Rattle.std.specs.declared.cmp.Ordering.{Ordering}
use Rattle.std.proofs.lemmas.Cmp.{nat_cmp_total, on_total, then_total}
use Rattle.std.proofs.lemmas.Map.Lookups.{CmpEqualImpliesEq, exact_pairs, exact_unsigned}
use Rattle.pam_findings.specs.host.Problems.{compare_places}
use Rattle.pam_findings.specs.declared.host.problem.Place.{Place}

exact_options : CmpEqualImpliesEq (option_cmp nat_cmp)
exact_options None None h = refl
exact_options None (Some y) h = absurd cc
exact_options (Some x) None h = absurd cc
exact_options (Some x) (Some y) h = ap (λ n. Some n) (exact_unsigned x y h)

parts_cmp : (x y : Option ℕ × (ℕ × (ℕ × (ℕ × ℕ)))) → Ordering
parts_cmp x y =
    ordering_then (option_cmp nat_cmp x.0 y.0) (ordering_then (nat_cmp x.1.0 y.1.0) (ordering_then (nat_cmp x.1.1.0 y.1.1.0)
    (ordering_then (nat_cmp x.1.1.1.0 y.1.1.1.0) (nat_cmp x.1.1.1.1 y.1.1.1.1))))

exact_parts : CmpEqualImpliesEq parts_cmp
unfolding parts_cmp
exact_parts = exact_pairs {B = ℕ × (ℕ × (ℕ × ℕ))} (option_cmp nat_cmp)
    (λ x y. ordering_then (nat_cmp x.0 y.0) (ordering_then (nat_cmp x.1.0 y.1.0) (ordering_then (nat_cmp x.1.1.0 y.1.1.0) (nat_cmp x.1.1.1 y.1.1.1))))
    exact_options
    (exact_pairs {B = ℕ × (ℕ × ℕ)} nat_cmp (λ x y. ordering_then (nat_cmp x.0 y.0) (ordering_then (nat_cmp x.1.0 y.1.0) (nat_cmp x.1.1 y.1.1))) exact_unsigned
    (exact_pairs {B = ℕ × ℕ} nat_cmp (λ x y. ordering_then (nat_cmp x.0 y.0) (nat_cmp x.1 y.1)) exact_unsigned
    (exact_pairs {B = ℕ} nat_cmp nat_cmp exact_unsigned exact_unsigned)))

pub exact_places : CmpEqualImpliesEq compare_places
unfolding parts_cmp
exact_places a b h =
    ap (λ (x : Option ℕ × (ℕ × (ℕ × (ℕ × ℕ)))). let p : Place = record { file = x.0; line = x.1.0; rank = x.1.1.0; service = x.1.1.1.0; kind = x.1.1.1.1 } in p)
    (exact_parts (a.file, (a.line, (a.rank, (a.service, a.kind)))) (b.file, (b.line, (b.rank, (b.service, b.kind)))) h)

pub places_total : IsTotalOrder compare_places
places_total =
    then_total (on_total (λ (p : Place). p.file) (options_total nat_cmp_total)) (then_total (on_total (λ (p : Place). p.line) nat_cmp_total)
    (then_total (on_total (λ (p : Place). p.rank) nat_cmp_total) (then_total (on_total (λ (p : Place). p.service) nat_cmp_total)
    (on_total (λ (p : Place). p.kind) nat_cmp_total))))
