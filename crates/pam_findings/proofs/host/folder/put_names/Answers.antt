use Rattle.std.proofs.Common.{None, subst}
use Rattle.pam_conf.specs.Files.{Folder}
use Rattle.pam_findings.specs.host.inner.OfFolder.{HasNameProblem}
use Rattle.pam_findings.specs.host.inner.Table.{Puts, with_met}
use Rattle.pam_conf.proofs.ServiceSteps.{seen-of}
use Rattle.pam_findings.proofs.HostProofs.Foldered.{name-of, names-more}
use Rattle.pam_findings.proofs.host.folder.put_names.Goals as goal

pub loop-file-preserved : goal.loop-file-preserved
loop-file-preserved c =
    let name = c.unwrap-name.result.now in
    let old = c.loop-file.table in
    let new = c.put_name.new.table in
    names-more c.args.files.now c.loop-file.file name c.args.table.now old new
    (name-of c.args.files.now c.loop-file.file name
    (seen-of _ c.name.result c.unwrap-name.result _ c.name.ensures c.unwrap-name.ensures)) c.loop-file.invariant
    (subst (λ (rules : Folder). Puts (HasNameProblem rules name c.loop-file.file) (with_met None) old new) c.requires c.in_ok-put_name.ensures)
