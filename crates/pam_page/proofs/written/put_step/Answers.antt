use Rattle.std.proofs.Common.{refl}
use Rattle.pam_codes.specs.SetText.{set_text}
use Rattle.pam_codes.proofs.Writing.{err-front, front-is, front-longer, writes-is, writes-then}
use Rattle.pam_page.proofs.LineParts.{step_text-is}
use Rattle.pam_paths.specs.Steps.{step_seen}
use Rattle.pam_page.proofs.written.put_step.Goals as goal

pub returns-in_err-put_line : goal.returns-in_err-put_line
returns-in_err-put_line g c =
    let step = step_seen c.args.step.now in
    err-front _ c.from_residual.ensures.0
    (front-is (front-longer (set_text step.class) c.in_err-put_line.ensures) (step_text-is step c.number.result step.class c.number.ensures refl))

pub returns : goal.returns
returns g c =
    writes-is _ _ _ _ _ _ (writes-then _ _ _ c.in_ok-put_line.ensures c.write_text.ensures)
    (step_text-is (step_seen c.args.step.now) c.number.result c.class.result c.number.ensures c.class.ensures)
