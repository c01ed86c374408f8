use Rattle.std.proofs.Common.{◌∙◌, sym}
use Rattle.std.proofs.lemmas.Result.{on_ok_weaker}
use Rattle.pam_findings.proofs.HostProofs.Foldered.{whole-folder}
use Rattle.pam_conf.proofs.ServiceSteps.{nothing}
use Rattle.pam_findings.proofs.host.folder.put_folder.Goals as goal

pub returns-in-Dir : goal.returns-in-Dir
returns-in-Dir c =
    on_ok_weaker c.put_whole.result
    (whole-folder c.args.files.now c.args.named.now (sym c.in-Dir.ensures) (nothing c.args.named.now (sym c.len.ensures ∙ c.if-len-ne0.false))
    c.args.table.now c.put_whole.new.table)
    c.put_whole.ensures
