use Rattle.std.proofs.Common.{◌≡◌, ℕ, List, ◌++◌, ap, codes, refl}
use Rattle.pam_codes.proofs.Writing.{all-then, err-front, front-is, front-longer, front-then, writes-is, writes-then}
use Rattle.pam_render.specs.sentences.Shown.{shown_name}
use Rattle.pam_render.specs.text.Tables.{of_name}
use Rattle.pam_render.proofs.text.tables.put_of.Goals as goal

-- the parts that are written are the text
named-is : (name written : List ℕ) → written ≡ name → (codes " of " ++ shown_name written) ++ codes "\n" ≡ of_name name
named-is name written is = ap (λ (n : List ℕ). (codes " of " ++ shown_name n) ++ codes "\n") is

pub returns-in_err-put : goal.returns-in_err-put
returns-in_err-put g c =
    let name = c.args.table.now in
    err-front _ c.from_residual.ensures.0
    (front-is (front-longer (codes "\n") (front-longer (shown_name name) c.in_err-put.ensures)) (named-is name name refl))

pub returns-in_err-put_name : goal.returns-in_err-put_name
returns-in_err-put_name g c =
    err-front _ c.from_residual-in_err-put_name.ensures.0
    (front-is (front-longer (codes "\n") (front-then c.in_ok-put.ensures c.in_err-put_name.ensures))
    (named-is c.args.table.now _ c.as_bytes.ensures.value))

pub returns : goal.returns
returns g c =
    writes-is _ _ _ _ _ _ (writes-then _ _ _ (all-then c.in_ok-put.ensures c.in_ok-put_name.ensures) c.put-2.ensures)
    (named-is c.args.table.now _ c.as_bytes.ensures.value)
