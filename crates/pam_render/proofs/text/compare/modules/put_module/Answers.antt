use Rattle.std.proofs.Common.{◌++◌, ap}
use Rattle.pam_codes.proofs.Writing.{all-is, writes-is, writes-then}
use Rattle.pam_report.specs.Decide.{path_at}
use Rattle.pam_render.specs.sentences.Shown.{shown_name}
use Rattle.pam_render.specs.text.Compare.{module_text, occurrence_text}
use Rattle.pam_render.proofs.text.compare.modules.put_module.Goals as goal

pub returns : goal.returns
unfolding module_text
returns g c =
    writes-is _ _ _ _ _ _
    (writes-then _ _ _ (all-is c.in_ok-put_name.ensures (ap shown_name c.path_at.ensures)) c.put_occurrence.ensures)
    (ap (λ n. shown_name (path_at c.args.number c.args.stack.now) ++ occurrence_text c.args.place.now n) c.occurrence.ensures)
