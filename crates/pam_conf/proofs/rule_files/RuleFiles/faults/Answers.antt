use Rattle.pam_conf.proofs.FileFaults.{faults_lent}
use Rattle.pam_conf.proofs.rule_files.RuleFiles.faults.Goals as goal

pub returns : goal.returns
returns c =
    faults_lent c.self.inside.files.now c.args.self.now c.self.inside.read.items c.deref.result.now c.args.position c.in_ok-file.file c.self.view_is
    c.deref.ensures.value c.in_ok-file.ensures.lookup c.self.invariant c.as_slice.result.now c.as_slice.ensures.value
