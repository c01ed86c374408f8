use Rattle.std.proofs.Common.{ap, List, ℕ}
use Rattle.std.specs.List.{flat_map}
use Rattle.pam_codes.proofs.Writing.{all-is, all-then, err-front, front-is, front-longer, front-then, writes-then}
use Rattle.pam_codes.specs.Code.{all_codes}
use Rattle.pam_drawing.specs.Drawing.{end_if_drawn, ends_text}
use Rattle.pam_drawing.proofs.edge.put_ends.Goals as goal

pub returns-in_err-put_ends_opening : goal.returns-in_err-put_ends_opening
unfolding ends_text
returns-in_err-put_ends_opening g c = err-front _ c.from_residual.ensures.0 (front-longer _ (front-longer _ c.in_err-put_ends_opening.ensures))

pub returns-in_err-put_each_end : goal.returns-in_err-put_each_end
unfolding ends_text
returns-in_err-put_each_end g c =
    let text = ap (λ (drawn : List ℕ). flat_map (end_if_drawn c.args.format drawn) all_codes) c.drawn_ends.ensures in
    err-front _ c.from_residual-in_err-put_each_end.ensures.0
    (front-longer _ (front-then c.in_ok-put_ends_opening.ensures (front-is c.in_err-put_each_end.ensures text)))

pub returns : goal.returns
unfolding ends_text
returns g c =
    let text = ap (λ (drawn : List ℕ). flat_map (end_if_drawn c.args.format drawn) all_codes) c.drawn_ends.ensures in
    writes-then _ _ _ (all-then c.in_ok-put_ends_opening.ensures (all-is c.in_ok-put_each_end.ensures text)) c.put_ends_closing.ensures
