-- the parts that are left have the word if all have it
use Rattle.std.proofs.Common.{◌≡◌, ℕ, List, Bor}
use Rattle.std.specs.List.{list_any}
use Rattle.std.specs.Option.{option_map}
use Rattle.std.specs.Str.{bytes_eq}
use Rattle.pam_facts.specs.arguments.Cuts.{parts_of}
use Rattle.pam_facts.specs.arguments.inner.Cuts.{parts_left}
use Rattle.pam_facts.proofs.arguments.cuts.has_part.Given as goal

abbrev pub invariant-loop-part : goal.invariant-loop-part
invariant-loop-part l = record {
  can : (goal.iterator-loop-part).can_next l.part-iterator;
  finite : (goal.iterator-loop-part).is_finite l.part-iterator;
  same : list_any (bytes_eq l.word) (parts_left l.part-iterator.separator (option_map (λ (t : Bor (List ℕ)). t.now) l.part-iterator.rest))
      ≡ list_any (bytes_eq l.word) (parts_of l.separator l.text);
}
