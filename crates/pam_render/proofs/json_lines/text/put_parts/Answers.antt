use Rattle.std.proofs.Common.{◌+◌, ℕ, List, drop}
use Rattle.std.specs.List.{flat_map}
use Rattle.std.specs.Str.Lossy.{utf8_lossy}
use Rattle.json.specs.Print.{escape}
use Rattle.pam_text.proofs.Writing.{err-front, front-is, front-longer, front-then}
use Rattle.pam_text.proofs.FlatTexts.{flat_map-at}
use Rattle.pam_render.specs.declared.json_lines.text.Part.{Part}
use Rattle.pam_render.proofs.json_lines.text.put_parts.Goals as goal

abbrev escaped : Part → List ℕ
escaped part = escape (utf8_lossy part.0.now)

pub returns-in_err-put_chunks : goal.returns-in_err-put_chunks
returns-in_err-put_chunks g c =
    let parts = c.args.parts.now in
    let index = c.loop-part.part-index in
    err-front _ c.from_residual.ensures.0
    (front-is (front-longer (flat_map escaped (drop (index + 1) parts)) (front-then c.loop-part.invariant c.in_err-put_chunks.ensures))
    (flat_map-at escaped parts index _ c.loop-part-test.true))
