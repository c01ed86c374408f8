use Rattle.std.proofs.Common.{◌∙◌, ap, sym}
use Rattle.pam_codes.specs.Set.{codes_where}
use Rattle.pam_drawing.proofs.Ends.{none-pass}
use Rattle.pam_drawing.specs.Drawing.{is_end}
use Rattle.pam_graph.specs.declared.node.Target.{Target}
use Rattle.pam_drawing.proofs.edge.end_of.Goals as goal

pub returns-in-At : goal.returns-in-At
returns-in-At c = none-pass _ c.empty.ensures ∙ ap (λ (t : Target). codes_where (λ code. is_end code t)) (sym c.in-At.is)

pub returns-in-End : goal.returns-in-End
returns-in-End c = c.end_at.ensures ∙ ap (λ (t : Target). codes_where (λ code. is_end code t)) (sym c.in-End.is)
