use Rattle.pam_findings.proofs.TablesProofs.Putting.{put-one}
use Rattle.pam_findings.proofs.tables.findings.put.Goals as goal

pub returns : goal.returns
returns c =
    put-one c.args.found.now c.insert.new.self c.args.finding c.place.result c.place.ensures.value c.in_ok-insert.ensures.updates
