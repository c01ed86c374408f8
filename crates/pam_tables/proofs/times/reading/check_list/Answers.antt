use Rattle.pam_tables.proofs.TimesProofs.CheckSteps.{fault_next, list_fault}
use Rattle.pam_tables.proofs.times.reading.check_list.Goals as goal

pub loop-item-init : goal.loop-item-init
loop-item-init c = list_fault c.args.field c.args.text.now

pub loop-item-preserved : goal.loop-item-preserved
loop-item-preserved c =
    fault_next c.args.field c.loop-item.checked _ _ c.loop-item.invariant c.in-Some.item c.in-Some.ensures.item
    c.check_next-checked.result c.check_next-checked.ensures _ _ c.in-Joint.ensures.items
