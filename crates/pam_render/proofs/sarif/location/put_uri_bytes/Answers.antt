use Rattle.std.proofs.Common.{◌+◌, drop}
use Rattle.std.specs.List.{flat_map}
use Rattle.pam_text.proofs.Writing.{err-front, front-is, front-longer, front-then}
use Rattle.pam_text.proofs.FlatTexts.{flat_map-at}
use Rattle.pam_render.proofs.SarifProofs.Uris.{escaped}
use Rattle.pam_render.proofs.sarif.location.put_uri_bytes.Goals as goal

pub returns-in_err-put_uri_byte : goal.returns-in_err-put_uri_byte
returns-in_err-put_uri_byte g c =
    let path = c.args.path.now in
    let index = c.loop-byte.byte-index in
    err-front _ c.from_residual.ensures.0
    (front-is (front-longer (flat_map escaped (drop (index + 1) path)) (front-then c.loop-byte.invariant c.in_err-put_uri_byte.ensures))
    (flat_map-at escaped path index _ c.loop-byte-test.true))
