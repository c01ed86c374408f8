-- what is read so far is for the kinds before this one
use Rattle.std.proofs.Common.{map}
use Rattle.pam_report.specs.Released.{released}
use Rattle.pam_report.specs.ReplyViews.{released_view}
use Rattle.pam_report.proofs.ShownSteps.{AreFound}
use Rattle.pam_report.proofs.report.released.read_each.Given as goal

abbrev pub invariant-loop-kind : goal.invariant-loop-kind
invariant-loop-kind l = AreFound (λ kind. released l.service kind l.release l.files) l.kinds (map released_view l.readings.items) l.kind-index
