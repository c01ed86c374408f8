use Rattle.pam_findings.proofs.HostProofs.CutOff.{cut-none, cut-some}
use Rattle.pam_findings.proofs.host.cut_off.push_cut_off.Goals as goal

pub returns-in_default : goal.returns-in_default
returns-in_default c = cut-none c.args.rules.now c.args.cut_off c.in_default.is c.args.asked.now.items

pub returns : goal.returns
returns c =
    cut-some c.args.rules.now c.args.cut_off c.in-Some.met c.in-Some.is c.args.asked.now.items c.push_files.new.asked.items c.in_ok-push_files.ensures
