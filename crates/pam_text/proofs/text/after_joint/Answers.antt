use Rattle.pam_text.proofs.Runs.{two_first}
use Rattle.pam_text.proofs.text.after_joint.Goals as goal

pub returns-then-bytes-eq10-clause-value : goal.returns-then-bytes-eq10-clause-value
returns-then-bytes-eq10-clause-value c =
    two_first c.args.bytes.now _ c.if-bytes-ge2.true c.if-bytes-eq92.true c.if-bytes-eq10.true c.split_at.ensures.back
