use Rattle.std.proofs.Common.{◌∙◌, List, Bor, ℕ, ap, map, string_bytes, subst, sym}
use Rattle.std.specs.Cmp.Lexicographic.{slice_cmp}
use Rattle.std.specs.List.Sorted.{IsStrictlySortedBy}
use Rattle.std.specs.Ordering.{nat_cmp}
use Rattle.pam_web.proofs.Names.{in_order}
use Rattle.pam_web.proofs.memory.MemorySystem.entries.Goals as goal

pub returns-clause-order : goal.returns-clause-order
returns-clause-order c =
    in_order string_bytes c.in_ok-texts.texts.items
    (subst (λ (names : List (List ℕ)). IsStrictlySortedBy (slice_cmp nat_cmp) names)
    (sym (c.in_ok-texts.ensures ∙ ap (λ (names : List (Bor (List ℕ))). map (λ n. n.now) names) c.deref.ensures.value)) c.in_ok-names.ensures.rising)
