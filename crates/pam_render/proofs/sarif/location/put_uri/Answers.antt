use Rattle.std.proofs.Common.{◌++◌, codes}
use Rattle.std.specs.List.{flat_map}
use Rattle.json.specs.Print.{escape}
use Rattle.pam_text.proofs.Writing.{err-front, front-is, front-longer, front-then, writes-is, writes-then}
use Rattle.pam_render.proofs.SarifProofs.Uris.{escaped, uri-is}
use Rattle.pam_render.specs.sarif.Location.{scheme_of}
use Rattle.pam_render.proofs.sarif.location.put_uri.Goals as goal

pub returns-in_err-put : goal.returns-in_err-put
returns-in_err-put g c =
    let path = c.args.path.now in
    err-front _ c.from_residual.ensures.0
    (front-is (front-longer (escape (scheme_of path) ++ (flat_map escaped path ++ codes "\"")) c.in_err-put.ensures) (uri-is path))

pub returns-in_err-put_scheme : goal.returns-in_err-put_scheme
returns-in_err-put_scheme g c =
    let path = c.args.path.now in
    err-front _ c.from_residual-in_err-put_scheme.ensures.0
    (front-is (front-then c.in_ok-put.ensures (front-longer (flat_map escaped path ++ codes "\"") c.in_err-put_scheme.ensures)) (uri-is path))

pub returns-in_err-put_uri_bytes : goal.returns-in_err-put_uri_bytes
returns-in_err-put_uri_bytes g c =
    err-front _ c.from_residual-in_err-put_uri_bytes.ensures.0
    (front-is (front-then c.in_ok-put.ensures (front-then c.in_ok-put_scheme.ensures (front-longer (codes "\"") c.in_err-put_uri_bytes.ensures)))
    (uri-is c.args.path.now))

pub returns : goal.returns
returns g c =
    writes-is _ _ _ _ _ _
    (writes-then _ _ _ c.in_ok-put.ensures (writes-then _ _ _ c.in_ok-put_scheme.ensures (writes-then _ _ _ c.in_ok-put_uri_bytes.ensures c.put-2.ensures)))
    (uri-is c.args.path.now)
