use Rattle.std.proofs.Common.{◌≡◌, List, ℕ, Bor}
use Rattle.std.specs.Option.{option_map}
use Rattle.pam_facts.specs.Kinds.{kinds_named}
use Rattle.pam_facts.specs.inner.Kinds.{names_left}
use Rattle.pam_facts.proofs.KindSteps.{found_with}
use Rattle.pam_facts.proofs.kinds.Kinds.named.Given as goal

abbrev pub invariant-loop-name : goal.invariant-loop-name
invariant-loop-name l = record {
  can : (goal.iterator-loop-name).can_next l.name-iterator;
  finite : (goal.iterator-loop-name).is_finite l.name-iterator;
  same : found_with l.kinds (names_left (option_map (λ (t : Bor (List ℕ)). t.now) l.name-iterator.rest)) ≡ kinds_named l.word;
}
