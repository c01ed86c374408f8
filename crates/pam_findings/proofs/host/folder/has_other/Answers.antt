use Rattle.std.proofs.Common.{◌∙◌, ap, codes, sym}
use Rattle.std.specs.Str.{bytes_eq}
use Rattle.pam_conf.proofs.ServiceSteps.{seen-of}
use Rattle.pam_findings.proofs.HostProofs.FileNames.{name-here, name-later}
use Rattle.pam_findings.proofs.host.folder.has_other.Goals as goal

pub returns-then-eq : goal.returns-then-eq
returns-then-eq c =
    let name = c.unwrap-name.result.now in
    sym (name-here (codes "other") c.args.files.now.entries c.loop-position.position name
    (seen-of _ c.name.result c.unwrap-name.result _ c.name.ensures c.unwrap-name.ensures)
    (ap (λ wanted. bytes_eq wanted name) (sym c.as_slice.ensures) ∙ sym c.if-eq.ensures)) ∙ c.loop-position.invariant

pub loop-position-preserved : goal.loop-position-preserved
loop-position-preserved c =
    let name = c.unwrap-name.result.now in
    name-later (codes "other") c.args.files.now.entries c.loop-position.position name
    (seen-of _ c.name.result c.unwrap-name.result _ c.name.ensures c.unwrap-name.ensures)
    (ap (λ wanted. bytes_eq wanted name) (sym c.as_slice.ensures) ∙ sym c.if-eq.ensures)
    ∙ c.loop-position.invariant
