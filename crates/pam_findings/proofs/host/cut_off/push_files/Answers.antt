use Rattle.pam_findings.proofs.HostProofs.CutOff.{files-more, files-none}
use Rattle.pam_findings.proofs.host.cut_off.push_files.Goals as goal

pub loop-file-init : goal.loop-file-init
loop-file-init c = files-none c.args.rules.now c.args.kinds c.args.asked.now.items

pub loop-file-preserved : goal.loop-file-preserved
loop-file-preserved c =
    files-more c.args.rules.now c.args.kinds c.loop-file.file c.args.asked.now.items c.loop-file.asked.items c.push_file.new.asked.items
    c.loop-file.invariant c.in_ok-push_file.ensures
