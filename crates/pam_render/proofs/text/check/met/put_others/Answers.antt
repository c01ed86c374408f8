use Rattle.std.proofs.Common.{ℕ, List, Bor, map, refl}
use Rattle.pam_codes.proofs.Writing.{all-then, err-front, front-is, front-longer, front-then, writes-is, writes-then}
use Rattle.pam_render.specs.parts.Check.{text_at}
use Rattle.pam_render.specs.sentences.Shown.{shown_name}
use Rattle.pam_render.proofs.TextProofs.CheckMet.{last_text, others-few, others-many}
use Rattle.pam_render.proofs.text.check.met.put_others.Goals as goal

pub returns-in_err-put : goal.returns-in_err-put
returns-in_err-put g c =
    let services = map (λ (s : Bor (List ℕ)). s.now) c.args.services.now in
    err-front _ c.from_residual.ensures.0
    (front-is (front-longer _ c.in_err-put.ensures) (others-few services c.args.second c.args.count _ c.if-count-le2.true refl))

pub returns-then-count-le2 : goal.returns-then-count-le2
returns-then-count-le2 g c =
    let services = map (λ (s : Bor (List ℕ)). s.now) c.args.services.now in
    writes-is _ _ _ _ _ _ (writes-then _ _ _ c.in_ok-put.ensures c.put_name.ensures)
    (others-few services c.args.second c.args.count _ c.if-count-le2.true c.text_at.ensures)

pub returns-in_err-put-2 : goal.returns-in_err-put-2
returns-in_err-put-2 g c =
    let services = map (λ (s : Bor (List ℕ)). s.now) c.args.services.now in
    let named = shown_name (text_at services c.args.second) in
    err-front _ c.from_residual-in_err-put-2.ensures.0
    (front-is (front-longer (last_text c.args.count) (front-longer named c.in_err-put-2.ensures))
    (others-many services c.args.second c.args.count _ c.if-count-le2.false refl))

pub returns-in_err-put_name : goal.returns-in_err-put_name
returns-in_err-put_name g c =
    let services = map (λ (s : Bor (List ℕ)). s.now) c.args.services.now in
    err-front _ c.from_residual-in_err-put_name.ensures.0
    (front-is (front-longer _ (front-then c.in_ok-put-2.ensures c.in_err-put_name.ensures))
    (others-many services c.args.second c.args.count _ c.if-count-le2.false c.text_at-2.ensures))

pub returns : goal.returns
returns g c =
    let services = map (λ (s : Bor (List ℕ)). s.now) c.args.services.now in
    writes-is _ _ _ _ _ _ (writes-then _ _ _ (all-then c.in_ok-put-2.ensures c.in_ok-put_name.ensures) c.put_line.ensures)
    (others-many services c.args.second c.args.count _ c.if-count-le2.false c.text_at-2.ensures)
