use Rattle.std.proofs.Common.{◌≡◌, Ok, ap}
use Rattle.pam_report.specs.Reply.{Check, CheckValue}
use Rattle.pam_report.specs.ReplyViews.{check_view}
use Rattle.pam_render.proofs.PartsProofs.Printed.{text-printed}
use Rattle.pam_render.specs.parts.Check.{Names, names_of_value}
use Rattle.pam_render.specs.sarif.Document.{IsSarif, named_sarif}
use Rattle.pam_render.proofs.sarif.document.write_sarif.Goals as goal

-- the document with the names of a check is its SARIF
sarif-is : (value : CheckValue) (names : Names) → names ≡ names_of_value value → IsSarif (Check value) (Ok (named_sarif names value))
sarif-is value names e = ap (λ (n : Names). Ok (named_sarif n value)) e

pub returns-in-Ok : goal.returns-in-Ok
returns-in-Ok g c =
    let value = check_view c.args.reply.now in
    text-printed g.W.Write.contents IsSarif _ _ (Check value) _ _ _ (sarif-is value _ c.in-Ok.ensures) c.with_write_fault.ensures c.write_named.ensures
