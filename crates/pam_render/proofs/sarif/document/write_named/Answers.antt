use Rattle.std.proofs.Common.{[], ap, refl}
use Rattle.pam_text.proofs.Writing.{all-is, flushes-last}
use Rattle.pam_render.proofs.JsonLinesProofs.Members.{then}
use Rattle.pam_render.specs.json_lines.Line.{line}
use Rattle.pam_render.proofs.sarif.document.write_named.Goals as goal

pub returns : goal.returns
returns g c =
    flushes-last _ _
    (all-is c.in_ok-put_line.ensures
    (ap line (then _ _ _ _ c.text.ensures (then _ _ _ _ c.text-2.ensures (then _ _ [] [] c.written.ensures refl)))))
    c.finish.ensures
