use Rattle.std.proofs.Common.{◌∙◌, sym}
use Rattle.std.proofs.lemmas.Result.{IfOk-weaker}
use Rattle.pam_conf.proofs.ServiceSteps.{seen-of}
use Rattle.pam_cli.proofs.UnreadFiles.{no_byte, one-read}
use Rattle.pam_cli.proofs.reading.unread.require_file.Goals as goal

pub returns-in-Some : goal.returns-in-Some
returns-in-Some g c =
    let told = g.S.System.told c.args.system.now in
    let bytes = c.in-Some.bytes.now in
    IfOk-weaker c.require_empty.result _ _
    (λ done held. one-read told c.args.root.now _ bytes (seen-of _ c.bytes.result c.in-Some.bytes _ c.bytes.ensures c.in-Some.is)
    (no_byte bytes (sym c.is_empty.ensures ∙ c.if-is_empty.true)) held)
    c.require_empty.ensures
