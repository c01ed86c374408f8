use Rattle.std.proofs.Common.{ap}
use Rattle.pam_codes.proofs.Writing.{all-is, all-then, err-front, front-longer, front-then, writes-then}
use Rattle.pam_render.specs.text.Check.{place_text}
use Rattle.pam_render.specs.sentences.Shown.{shown_name}
use Rattle.pam_render.proofs.text.check.finding.put_place.Goals as goal

pub returns-in_err-put_where : goal.returns-in_err-put_where
unfolding place_text
returns-in_err-put_where g c =
    err-front _ c.from_residual-in_err-put_where.ensures.0
    (front-longer _ (front-then (all-is c.in_ok-put_name.ensures (ap shown_name c.path_of.ensures)) c.in_err-put_where.ensures))

pub returns : goal.returns
unfolding place_text
returns g c =
    writes-then _ _ _ (all-then (all-is c.in_ok-put_name.ensures (ap shown_name c.path_of.ensures)) c.in_ok-put_where.ensures) c.put.ensures
