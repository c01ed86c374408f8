use Rattle.std.proofs.Common.{ℕ, List, ap}
use Rattle.pam_codes.proofs.Writing.{all-is, err-front, front-is, front-longer, writes-then}
use Rattle.pam_render.specs.text.Decide.{asked_text, path_text}
use Rattle.pam_render.proofs.text.decide.put_asked.Goals as goal

pub returns-in_err-put_path : goal.returns-in_err-put_path
unfolding asked_text
returns-in_err-put_path g c =
    let path = ap (λ (x : List ℕ). path_text c.args.asked.now.number x) c.deref.ensures.value in
    err-front _ c.from_residual.ensures.0 (front-longer _ (front-is c.in_err-put_path.ensures path))

pub returns : goal.returns
unfolding asked_text
returns g c =
    let path = ap (λ (x : List ℕ). path_text c.args.asked.now.number x) c.deref.ensures.value in
    writes-then _ _ _ (all-is c.in_ok-put_path.ensures path) c.put_outcome.ensures
