-- the stacks so far are those of the kinds before this one
use Rattle.std.proofs.Common.{map}
use Rattle.pam_report.specs.ReplyViews.{stack_view}
use Rattle.pam_report.specs.Show.{stack_in}
use Rattle.pam_report.proofs.ShownSteps.{AreFound}
use Rattle.pam_report.proofs.report.show.stacks_in.Given as goal

abbrev pub invariant-loop-kind : goal.invariant-loop-kind
invariant-loop-kind l = AreFound (stack_in l.service l.files) l.kinds (map stack_view l.stacks.items) l.kind-index
