use Rattle.std.proofs.Common.{◌≡◌, Ok, ap}
use Rattle.pam_report.specs.Reply.{Check, CheckValue}
use Rattle.pam_report.specs.ReplyViews.{check_view}
use Rattle.pam_render.proofs.PartsProofs.Printed.{text-printed}
use Rattle.pam_render.specs.parts.Check.{Names, names_of_value}
use Rattle.pam_render.specs.full_text.Check.{IsFull, named_full}
use Rattle.pam_render.proofs.full_text.document.write_full.Goals as goal

-- the text with the names of a check is its full text
full-is : (value : CheckValue) (names : Names) → names ≡ names_of_value value → IsFull (Check value) (Ok (named_full names value))
full-is value names e = ap (λ (n : Names). Ok (named_full n value)) e

pub returns-in-Ok : goal.returns-in-Ok
returns-in-Ok g c =
    let value = check_view c.args.reply.now in
    text-printed g.W.Write.contents IsFull _ _ (Check value) _ _ _ (full-is value _ c.in-Ok.ensures) c.with_write_fault.ensures c.write_named.ensures
