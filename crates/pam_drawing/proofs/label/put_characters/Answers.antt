use Rattle.std.proofs.Common.{◌+◌, drop}
use Rattle.std.specs.List.{flat_map}
use Rattle.pam_codes.proofs.Writing.{err-front, front-is, front-longer, front-then}
use Rattle.pam_drawing.specs.Labels.{quoted}
use Rattle.pam_text.proofs.FlatTexts.{flat_map-at}
use Rattle.pam_drawing.proofs.label.put_characters.Goals as goal

pub returns-in_err-put_quoted : goal.returns-in_err-put_quoted
returns-in_err-put_quoted g c =
    let text = quoted c.args.format in
    let all = c.args.characters.now in
    let index = c.loop-character.character-index in
    err-front _ c.from_residual.ensures.0
    (front-is
    (front-longer (flat_map text (drop (index + 1) all))
    (front-then c.loop-character.invariant c.in_err-put_quoted.ensures))
    (flat_map-at text all index _ c.loop-character-test.true))
