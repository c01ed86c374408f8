use Rattle.std.proofs.Common.{ℕ, List, Bor, codes, map, refl}
use Rattle.pam_codes.proofs.Writing.{all-then, err-front, front-is, front-longer, front-then, writes-is, writes-then}
use Rattle.pam_render.specs.text.Check.{kinds_text, others_if_any}
use Rattle.pam_render.specs.parts.Check.{text_at}
use Rattle.pam_render.specs.sentences.Shown.{shown_name}
use Rattle.pam_render.proofs.TextProofs.CheckMet.{met-is}
use Rattle.pam_render.proofs.text.check.met.put_met.Goals as goal

pub returns-in_err-put : goal.returns-in_err-put
returns-in_err-put g c =
    let services = map (λ (s : Bor (List ℕ)). s.now) c.args.services.now in
    let met = c.args.met in
    let kinds = front-longer (codes "; ") (front-longer (kinds_text met.kinds) c.in_err-put.ensures) in
    err-front _ c.from_residual.ensures.0
    (front-is (front-longer (codes ")") (front-longer (others_if_any services met) (front-longer (shown_name (text_at services met.first)) kinds)))
    (met-is services met _ refl))

pub returns-in_err-put_kinds : goal.returns-in_err-put_kinds
returns-in_err-put_kinds g c =
    let services = map (λ (s : Bor (List ℕ)). s.now) c.args.services.now in
    err-front _ c.from_residual-in_err-put_kinds.ensures.0
    (front-is (front-longer _ (front-longer _ (front-longer _ (front-longer _ (front-then c.in_ok-put.ensures c.in_err-put_kinds.ensures)))))
    (met-is services c.args.met _ refl))

pub returns-in_err-put-2 : goal.returns-in_err-put-2
returns-in_err-put-2 g c =
    let services = map (λ (s : Bor (List ℕ)). s.now) c.args.services.now in
    err-front _ c.from_residual-in_err-put-2.ensures.0
    (front-is
    (front-longer _ (front-longer _ (front-longer _ (front-then (all-then c.in_ok-put.ensures c.in_ok-put_kinds.ensures) c.in_err-put-2.ensures))))
    (met-is services c.args.met _ refl))

pub returns-in_err-put_name : goal.returns-in_err-put_name
returns-in_err-put_name g c =
    let services = map (λ (s : Bor (List ℕ)). s.now) c.args.services.now in
    let before = all-then (all-then c.in_ok-put.ensures c.in_ok-put_kinds.ensures) c.in_ok-put-2.ensures in
    err-front _ c.from_residual-in_err-put_name.ensures.0
    (front-is (front-longer _ (front-longer _ (front-then before c.in_err-put_name.ensures))) (met-is services c.args.met _ c.text_at.ensures))

pub returns-in_err-put_others_if_any : goal.returns-in_err-put_others_if_any
returns-in_err-put_others_if_any g c =
    let services = map (λ (s : Bor (List ℕ)). s.now) c.args.services.now in
    let before = all-then (all-then c.in_ok-put.ensures c.in_ok-put_kinds.ensures) c.in_ok-put-2.ensures in
    err-front _ c.from_residual-in_err-put_others_if_any.ensures.0
    (front-is (front-longer _ (front-then (all-then before c.in_ok-put_name.ensures) c.in_err-put_others_if_any.ensures))
    (met-is services c.args.met _ c.text_at.ensures))

pub returns : goal.returns
returns g c =
    let services = map (λ (s : Bor (List ℕ)). s.now) c.args.services.now in
    let before = all-then (all-then c.in_ok-put.ensures c.in_ok-put_kinds.ensures) c.in_ok-put-2.ensures in
    writes-is _ _ _ _ _ _
    (writes-then _ _ _ (all-then (all-then before c.in_ok-put_name.ensures) c.in_ok-put_others_if_any.ensures) c.put-3.ensures)
    (met-is services c.args.met _ c.text_at.ensures)
