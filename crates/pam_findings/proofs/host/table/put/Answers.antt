use Rattle.std.proofs.Common.{refl}
use Rattle.pam_findings.specs.host.inner.Table.{with_met}
use Rattle.pam_findings.proofs.HostProofs.Places.{put-at}
use Rattle.pam_findings.proofs.host.table.put.Goals as goal

pub returns : goal.returns
returns c =
    put-at c.args.table.now c.insert.new.self c.args.spot c.place.result (record { problem = c.args.spot.problem; met = c.args.met })
    (with_met c.args.met) c.place.ensures c.in_ok-insert.ensures.updates refl refl
