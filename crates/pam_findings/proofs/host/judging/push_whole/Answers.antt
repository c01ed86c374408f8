use Rattle.pam_findings.proofs.HostProofs.Verdicted.{adds-whole}
use Rattle.pam_findings.proofs.host.judging.push_whole.Goals as goal

pub returns-in_ok-push : goal.returns-in_ok-push
returns-in_ok-push c =
    adds-whole c.args.file c.args.problem c.args.spots.now.items c.push.new.self.items c.args.has c.if-has.true c.in_ok-push.ensures.items
