use Rattle.pam_tables.specs.Access.{access_line}
use Rattle.pam_tables.specs.declared.error.Table.TheVariants.{Access}
use Rattle.pam_tables.proofs.FaultSteps.{fault_end, fault_step}
use Rattle.pam_tables.proofs.faults.faults_of_access.Goals as goal

pub loop-number-preserved : goal.loop-number-preserved
loop-number-preserved c =
    let s = c.args.separators.now in
    record {
      can = tt;
      finite = tt;
      found = fault_step Access (access_line s.fields.bytes.now s.tokens.bytes.now) c.in-Some.number c.in-Some.line.now _ _
          c.loop-number.faults.items c.push_fault.new.faults.items _ c.check_line-checked.result c.in-Some.ensures.steps
          (c.check_line-checked.ensures c.in-Some.number) c.in_ok-push_fault.ensures c.loop-number.invariant.found;
    }

pub returns : goal.returns
returns c =
    let s = c.args.separators.now in
    fault_end Access (access_line s.fields.bytes.now s.tokens.bytes.now) _ c.loop-number.faults.items _ c.in-None.ensures.steps.0
    c.loop-number.invariant.found
