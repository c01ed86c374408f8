use Rattle.pam_findings.proofs.HostProofs.Places.{removed-one}
use Rattle.pam_findings.proofs.host.table.remove.Goals as goal

pub returns : goal.returns
returns c = removed-one c.args.table.now c.remove.new.self c.args.spot c.place.result c.place.ensures c.remove.ensures.updates
