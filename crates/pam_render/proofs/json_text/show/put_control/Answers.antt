use Rattle.std.proofs.Common.{◌≡◌, ◌++◌, List, codes, sym}
use Rattle.json.specs.Print.{quoted}
use Rattle.pam_codes.proofs.Writing.{err-front, front-is, front-longer, front-then, writes-is, writes-then}
use Rattle.pam_codes.specs.ControlText.{control_text}
use Rattle.pam_codes.specs.declared.action.Action.{Action}
use Rattle.pam_render.proofs.JsonLinesProofs.Plain.{quoted-plain}
use Rattle.pam_render.proofs.JsonTextProofs.PlainTexts.{control-plain}
use Rattle.pam_render.proofs.json_text.show.put_control.Goals as goal

text-is : (control : List Action) → codes "\"" ++ (control_text control ++ codes "\"") ≡ quoted (control_text control)
text-is control = sym (quoted-plain (control_text control) (control-plain control))

pub returns-in_err-put : goal.returns-in_err-put
returns-in_err-put g c =
    let control = c.args.control.now in
    err-front _ c.from_residual.ensures.0 (front-is (front-longer (control_text control ++ codes "\"") c.in_err-put.ensures) (text-is control))

pub returns-in_err-write_text : goal.returns-in_err-write_text
returns-in_err-write_text g c =
    err-front _ c.from_residual-in_err-write_text.ensures.0
    (front-is (front-then c.in_ok-put.ensures (front-longer (codes "\"") c.in_err-write_text.ensures)) (text-is c.args.control.now))

pub returns : goal.returns
returns g c =
    writes-is _ _ _ _ _ _ (writes-then _ _ _ c.in_ok-put.ensures (writes-then _ _ _ c.in_ok-write_text.ensures c.put-2.ensures)) (text-is c.args.control.now)
