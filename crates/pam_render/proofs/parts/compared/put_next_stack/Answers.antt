use Rattle.std.proofs.Common.{ap, List}
use Rattle.pam_changes.specs.declared.services.ComparedService.{ComparedService}
use Rattle.pam_text.proofs.Writing.{all-is, writes-then}
use Rattle.pam_render.specs.parts.Compared.{if_first}
use Rattle.pam_render.proofs.parts.compared.put_next_stack.Goals as goal

pub returns : goal.returns
returns g c =
    let line = g.L.CompareLines.line in
    let same = ap (λ (s : List ComparedService). if_first line s c.args.before c.args.stack.now.service) c.deref.ensures.value in
    writes-then _ _ _ (all-is c.in_ok-put_if_first.ensures same) c.put_stack.ensures
