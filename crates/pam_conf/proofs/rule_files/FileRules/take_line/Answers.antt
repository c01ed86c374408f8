use Rattle.std.proofs.Common.{ap, map}
use Rattle.pam_conf.specs.inner.Kept.{kept_view}
use Rattle.pam_conf.proofs.FileFaults.{fault_taken}
use Rattle.pam_conf.proofs.rule_files.FileRules.take_line.Goals as goal

pub returns-in-Err-clause-rules : goal.returns-in-Err-clause-rules
returns-in-Err-clause-rules c =
    (fault_taken c.take_fault.result c.in-Err.fault _ _ _ _ _ c.in-Err.ensures c.take_fault.ensures.own
    (ap (λ rules. map kept_view rules.items) c.take_fault.ensures.rules) c.take_fault.ensures.faults).0

pub returns-in-Err-clause-faults : goal.returns-in-Err-clause-faults
returns-in-Err-clause-faults c =
    (fault_taken c.take_fault.result c.in-Err.fault _ _ _ _ _ c.in-Err.ensures c.take_fault.ensures.own
    (ap (λ rules. map kept_view rules.items) c.take_fault.ensures.rules) c.take_fault.ensures.faults).1
