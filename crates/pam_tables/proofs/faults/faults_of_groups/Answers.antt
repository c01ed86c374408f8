use Rattle.pam_tables.specs.Faults.{group_line}
use Rattle.pam_tables.specs.declared.error.Table.TheVariants.{Group}
use Rattle.pam_tables.proofs.FaultSteps.{fault_end, fault_step}
use Rattle.pam_tables.proofs.faults.faults_of_groups.Goals as goal

pub loop-number-preserved : goal.loop-number-preserved
loop-number-preserved c = record {
  can = tt;
  finite = tt;
  found = fault_step Group group_line c.in-Some.number c.in-Some.line.now _ _
      c.loop-number.faults.items c.push_fault.new.faults.items _ c.check_line.result c.in-Some.ensures.steps
      c.check_line.ensures c.in_ok-push_fault.ensures c.loop-number.invariant.found;
}

pub returns : goal.returns
returns c = fault_end Group group_line _ c.loop-number.faults.items _ c.in-None.ensures.steps.0 c.loop-number.invariant.found
