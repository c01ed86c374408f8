-- what the index has, and the lines that are left have
use Rattle.std.proofs.Common.{◌≡◌, ℕ, List, Bor}
use Rattle.std.specs.Option.{option_map}
use Rattle.pam_facts.specs.arguments.Table.{line_named, lines_of}
use Rattle.pam_facts.specs.arguments.inner.Cuts.{parts_left}
use Rattle.pam_facts.proofs.ArgumentProofs.TableSteps.{with_left}
use Rattle.pam_facts.proofs.arguments.index.index_of.Given as goal

abbrev pub invariant-loop-line : goal.invariant-loop-line
invariant-loop-line l = record {
  can : (goal.iterator-loop-line).can_next l.line-iterator;
  finite : (goal.iterator-loop-line).is_finite l.line-iterator;
  same : (name : List ℕ) → with_left name l.index.entries
      (parts_left l.line-iterator.separator (option_map (λ (t : Bor (List ℕ)). t.now) l.line-iterator.rest))
      ≡ line_named name (lines_of l.text);
}
