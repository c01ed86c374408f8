use Rattle.std.proofs.Common.{◌≡◌, length}
use Rattle.pam_tables.specs.times.inner.Fact.{meets}
use Rattle.pam_tables.specs.times.inner.Items.{items_after}
use Rattle.pam_tables.specs.times.Logic.{items_of}
use Rattle.pam_tables.specs.times.inner.Logic.{list_value}
use Rattle.pam_tables.proofs.TimesProofs.LogicSteps.{value_from}
use Rattle.pam_tables.proofs.times.logic.is_true.Given as goal

abbrev pub invariant-loop-item : goal.invariant-loop-item
invariant-loop-item l = value_from (meets l.fact) l.value (items_after l.joint l.rest) ≡ list_value (meets l.fact) (items_of l.text)

abbrev pub decreases-loop-item : goal.decreases-loop-item
decreases-loop-item l = length l.rest
