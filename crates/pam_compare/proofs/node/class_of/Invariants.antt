use Rattle.std.proofs.Common.{◌≡◌, ◌<◌, ℕ, true}
use Rattle.pam_codes.specs.Set.{is_in}
use Rattle.pam_dispatch.specs.Flat.{rest_of}
use Rattle.pam_compare.specs.Walks.{HaveOneOutcome}
use Rattle.pam_compare.specs.inner.Turn.{AreAlike}
use Rattle.pam_compare.proofs.node.class_of.Given as goal

abbrev pub invariant-loop-number : goal.invariant-loop-number
invariant-loop-number l = record {
  alike : (d : ℕ) → d < 31 → is_in d l.class ≡ true → AreAlike l.turn (rest_of l.pair.old.now l.node.old) (rest_of l.pair.new.now l.node.new) l.fn.code d;
  same : (d : ℕ) → d < 31 → is_in d l.class ≡ true → HaveOneOutcome l.turn (rest_of l.pair.old.now l.node.old) (rest_of l.pair.new.now l.node.new) l.fn.code d;
  all : (d : ℕ) → d < 31 → d < l.number → is_in d l.left ≡ true →
      HaveOneOutcome l.turn (rest_of l.pair.old.now l.node.old) (rest_of l.pair.new.now l.node.new) l.fn.code d → is_in d l.class ≡ true;
  own : l.fn.code < 31 → is_in l.fn.code l.class ≡ true;
}
