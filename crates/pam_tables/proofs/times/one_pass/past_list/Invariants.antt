use Rattle.std.proofs.Common.{◌≡◌, Ok, length}
use Rattle.pam_tables.specs.times.inner.Checks.{list_checked, token_checked}
use Rattle.pam_tables.specs.times.inner.Items.{items_after}
use Rattle.pam_tables.specs.times.inner.OnePass.{before, onward}
use Rattle.pam_tables.specs.declared.times.logic.Joint.TheVariants.{First}
use Rattle.pam_tables.proofs.TimesProofs.CheckSteps.{fault_from}
use Rattle.pam_tables.proofs.times.one_pass.past_list.Given as goal

abbrev pub invariant-loop-left : goal.invariant-loop-left
invariant-loop-left l = record {
  list : fault_from (token_checked l.field) (Ok tt) (items_after First (before l.rest)) ≡ list_checked l.field (before l.text);
  end : onward l.rest ≡ onward l.text;
}

abbrev pub decreases-loop-left : goal.decreases-loop-left
decreases-loop-left l = length l.rest
