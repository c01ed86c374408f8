use Rattle.std.proofs.Common.{[], codes}
use Rattle.std.specs.Prelude.{if◌then◌else◌}
use Rattle.pam_codes.specs.Out.{TookAll}
use Rattle.pam_codes.proofs.Writing.{all-none, writes-then}
use Rattle.pam_render.proofs.text.compare.modules.put_spaced.Goals as goal
use Rattle.pam_render.proofs.text.compare.modules.put_spaced.Goals.{then-more+in_ok-put, else-more}

-- the space is written, if there is one
pub returns : goal.returns
returns g c =
    let space : TookAll g.W.Write.contents c.args.out.now c.if-more.out (if c.args.more then codes " " else []) = elim c.if-more.branch [
      | then-more+in_ok-put w ↦ rw (w.if-more.true, w.out-is) w.in_ok-put.ensures
      | else-more w ↦ rw (w.if-more.false, w.out-is) (all-none _)
    ] in
    writes-then _ _ _ space c.put_name.ensures
