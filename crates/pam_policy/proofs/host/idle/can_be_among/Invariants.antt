use Rattle.std.proofs.Common.{drop}
use Rattle.pam_policy.specs.host.Stacks.{HaveGraphs, stacks_view}
use Rattle.pam_policy.specs.host.inner.Idle.{CanBeAmong}
use Rattle.pam_policy.specs.text.Sentences.{sentence_view}
use Rattle.pam_policy.proofs.host.idle.can_be_among.Given as goal

-- what can be among all classes can be among those that are left
abbrev pub invariant-loop-class : goal.invariant-loop-class
invariant-loop-class l =
    HaveGraphs l.stacks.classes.now → CanBeAmong l.way (stacks_view l.stacks) (sentence_view l.sentence) l.classes →
    CanBeAmong l.way (stacks_view l.stacks) (sentence_view l.sentence) (drop l.class-index l.classes)
