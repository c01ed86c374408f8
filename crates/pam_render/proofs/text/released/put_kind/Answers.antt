use Rattle.std.proofs.Common.{◌∙◌, ◌++◌, ap}
use Rattle.pam_codes.proofs.Writing.{writes-is, writes-then}
use Rattle.pam_render.specs.text.Released.{kind_front}
use Rattle.pam_render.proofs.text.released.put_kind.Goals as goal

pub returns : goal.returns
returns g c =
    writes-is _ _ _ (c.kind_front.result.now ++ c.kind_text.result.now) _ c.put-2.result (writes-then _ _ _ c.in_ok-put.ensures c.put-2.ensures)
    (ap (λ l. l ++ c.kind_text.result.now) c.kind_front.ensures ∙ ap (λ l. kind_front c.args.dashed ++ l) c.kind_text.ensures)
