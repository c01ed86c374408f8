use Rattle.std.proofs.Common.{◌≡◌, ◌∙◌, ◌∷◌, ◌++◌, ℕ, Bool, List, ap, append_assoc, sym, true}
use Rattle.pam_codes.proofs.Writing.{all-then, err-front, front-is, front-longer, front-then}
use Rattle.pam_render.specs.text.Compare.{if_more, spaced}
use Rattle.pam_render.proofs.text.compare.modules.put_all_spaced.Goals as goal

-- what is written, the next name and those after it
next_name : (more : Bool) (front name : List ℕ) (left after : List (List ℕ)) (text : List ℕ) → left ≡ name ∷ after → front ++ spaced more left ≡ text
    → (front ++ if_more more name) ++ spaced true after ≡ text
next_name more front name left after text e h =
    append_assoc front (if_more more name) (spaced true after) ∙ ap (λ (ws : List (List ℕ)). front ++ spaced more ws) (sym e) ∙ h

pub returns-in_err-put_spaced : goal.returns-in_err-put_spaced
returns-in_err-put_spaced g c =
    let l = c.loop-name.invariant in
    err-front _ c.from_residual.ensures.0
    (front-is (front-longer (spaced true c.next.new.self) (front-then l.took c.in_err-put_spaced.ensures))
    (next_name c.loop-name.more l.front _ _ _ _ c.in-Some.ensures.steps l.parts))

pub loop-name-preserved : goal.loop-name-preserved
loop-name-preserved g c =
    let l = c.loop-name.invariant in
    record {
      front = l.front ++ if_more c.loop-name.more c.in-Some.name.now;
      parts = next_name c.loop-name.more l.front _ _ _ _ c.in-Some.ensures.steps l.parts;
      took = all-then l.took c.in_ok-put_spaced.ensures;
    }
