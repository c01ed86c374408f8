use Rattle.std.proofs.Common.{[], codes}
use Rattle.std.specs.Prelude.{if◌then◌else◌}
use Rattle.pam_codes.specs.Out.{TookAll}
use Rattle.pam_codes.proofs.Writing.{all-none, err-front, front-is, front-longer, writes-is, writes-then}
use Rattle.pam_render.proofs.TextProofs.CheckMet.{kind-later, kind-named}
use Rattle.pam_render.proofs.text.check.met.put_if_kind.Goals as goal
use Rattle.pam_render.proofs.text.check.met.put_if_kind.Goals.{then-more+in_ok-put, else-more}

pub returns-in_err-put : goal.returns-in_err-put
returns-in_err-put g c =
    let name = c.args.name.now in
    err-front _ c.from_residual.ensures.0
    (front-is (front-longer name c.in_err-put.ensures) (kind-later c.args.is_named c.args.more name c.if-not-is_named.false c.if-more.true))

-- the comma is written, if there is one
pub returns : goal.returns
returns g c =
    let comma : TookAll g.W.Write.contents c.args.out.now c.if-more.out (if c.args.more then codes ", " else []) = elim c.if-more.branch [
      | then-more+in_ok-put w ↦ rw (w.if-more.true, w.out-is) w.in_ok-put.ensures
      | else-more w ↦ rw (w.if-more.false, w.out-is) (all-none _)
    ] in
    writes-is _ _ _ _ _ _ (writes-then _ _ _ comma c.put-2.ensures)
    (kind-named c.args.is_named c.args.more c.args.name.now c.if-not-is_named.false c.as_bytes.ensures.value)
