use Rattle.std.proofs.Common.{◌≡◌, length}
use Rattle.pam_tables.specs.times.inner.Checks.{list_checked, token_checked}
use Rattle.pam_tables.specs.times.inner.Items.{items_after}
use Rattle.pam_tables.specs.declared.times.logic.Joint.TheVariants.{First}
use Rattle.pam_tables.proofs.TimesProofs.CheckSteps.{fault_from}
use Rattle.pam_tables.proofs.times.reading.check_list.Given as goal

abbrev pub invariant-loop-item : goal.invariant-loop-item
invariant-loop-item l = fault_from (token_checked l.field) l.checked (items_after First l.rest) ≡ list_checked l.field l.text

abbrev pub decreases-loop-item : goal.decreases-loop-item
decreases-loop-item l = length l.rest
