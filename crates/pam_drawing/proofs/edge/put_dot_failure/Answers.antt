use Rattle.std.proofs.Common.{◌≡◌, ◌∙◌, ℕ, List, [], ◌∷◌, ap, codes}
use Rattle.std.specs.List.{concat}
use Rattle.std.specs.Prelude.{decimal}
use Rattle.pam_codes.proofs.Writing.{writes-is}
use Rattle.pam_codes.specs.SetText.{name_of}
use Rattle.pam_drawing.specs.Drawing.{dot_failure}
use Rattle.pam_drawing.proofs.edge.put_dot_failure.Goals as goal

pub returns : goal.returns
unfolding dot_failure
returns g c =
    let line = (λ (code : ℕ) (name : List ℕ).
    concat (codes "  d" ∷ decimal code ∷ codes " [label=\"" ∷ name ∷ codes "\", shape=octagon, group=\"negative " ∷ name ∷ codes "\"];\n" ∷ [])) in
    let number : c.from.result ≡ c.args.code = search in
    let named = ap (line c.from.result) c.name_of-name.ensures in
    writes-is _ _ _ _ _ _ c.put_line.ensures (named ∙ ap (λ (code : ℕ). line code (name_of c.args.code)) number)
