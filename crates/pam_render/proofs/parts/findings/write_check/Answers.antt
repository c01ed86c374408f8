use Rattle.std.proofs.Common.{◌≡◌, List, Ok, ℕ, ap}
use Rattle.pam_report.specs.Reply.{Check, CheckValue}
use Rattle.pam_report.specs.ReplyViews.{check_view}
use Rattle.pam_render.proofs.PartsProofs.Printed.{text-printed}
use Rattle.pam_render.specs.parts.Check.{Names, names_of_value}
use Rattle.pam_render.specs.parts.Findings.{IsCheckBy, Line, named_lines}
use Rattle.pam_render.proofs.parts.findings.write_check.Goals as goal

-- the lines with the names of a check are its text
text-is : (line : Line → List ℕ) (value : CheckValue) (names : Names) → names ≡ names_of_value value
    → IsCheckBy line (Check value) (Ok (named_lines line names value))
text-is line value names e = ap (λ (n : Names). Ok (named_lines line n value)) e

pub returns-in-Ok : goal.returns-in-Ok
returns-in-Ok g c =
    let value = check_view c.args.reply.now in
    let line = g.L.CheckLines.line in
    text-printed g.W.Write.contents (IsCheckBy line) _ _ (Check value) _ _ _ (text-is line value _ c.in-Ok.ensures) c.with_write_fault.ensures
    c.write_named.ensures
