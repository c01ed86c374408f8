use Rattle.std.proofs.Common.{◌∙◌, codes, sym}
use Rattle.pam_codes.proofs.Writing.{all-is, all-none, all-then, err-front, front-is, front-longer, front-then, writes-is, writes-then}
use Rattle.pam_render.proofs.FullTextProofs.Excerpts.{excerpt-none, excerpt-some}
use Rattle.pam_render.specs.full_text.Excerpt.{carets_if_any}
use Rattle.pam_render.proofs.full_text.excerpt.put_excerpt.Goals as goal

pub returns-then-is_empty : goal.returns-then-is_empty
returns-then-is_empty g c =
    all-is (all-none c.args.out.now) (excerpt-none c.args.number c.args.bytes.now c.args.spot (sym c.is_empty.ensures ∙ c.if-is_empty.true))

pub returns-in_err-put_line : goal.returns-in_err-put_line
returns-in_err-put_line g c =
    let window = c.of-window.result in
    err-front _ c.from_residual.ensures.0
    (front-is
    (front-longer (codes "\n") (front-longer (carets_if_any c.args.number window.before.now window.after.now c.args.spot) c.in_err-put_line.ensures))
    (excerpt-some c.args.number c.args.bytes.now window.before.now window.after.now c.args.spot c.start_of.result
    (sym c.is_empty.ensures ∙ c.if-is_empty.false) c.start_of.ensures c.of-window.ensures.before c.of-window.ensures.after))

pub returns-in_err-put_carets_if_any : goal.returns-in_err-put_carets_if_any
returns-in_err-put_carets_if_any g c =
    let window = c.of-window.result in
    err-front _ c.from_residual-in_err-put_carets_if_any.ensures.0
    (front-is (front-longer (codes "\n") (front-then c.in_ok-put_line.ensures c.in_err-put_carets_if_any.ensures))
    (excerpt-some c.args.number c.args.bytes.now window.before.now window.after.now c.args.spot c.start_of.result
    (sym c.is_empty.ensures ∙ c.if-is_empty.false) c.start_of.ensures c.of-window.ensures.before c.of-window.ensures.after))

pub returns : goal.returns
returns g c =
    let window = c.of-window.result in
    writes-is _ _ _ _ _ _ (writes-then _ _ _ (all-then c.in_ok-put_line.ensures c.in_ok-put_carets_if_any.ensures) c.put.ensures)
    (excerpt-some c.args.number c.args.bytes.now window.before.now window.after.now c.args.spot c.start_of.result
    (sym c.is_empty.ensures ∙ c.if-is_empty.false) c.start_of.ensures c.of-window.ensures.before c.of-window.ensures.after)
