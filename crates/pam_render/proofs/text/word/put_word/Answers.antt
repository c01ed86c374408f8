use Rattle.std.proofs.Common.{◌≡◌, ℕ, List, ◌++◌, true, false, if◌then◌else◌, codes, sym, ap, ◌∙◌}
use Rattle.pam_codes.proofs.Writing.{all-then, err-front, front-then, front-longer, front-is, writes-then, writes-is}
use Rattle.pam_render.specs.text.WordText.{escaped, is_plain, word_text}
use Rattle.pam_render.proofs.text.word.put_word.Goals as goal

plain : (text : List ℕ) → is_plain text ≡ true → word_text text ≡ text
unfolding word_text
plain text h = ap (λ b. if b then text else codes "[" ++ escaped text ++ codes "]") h

bracketed : (text : List ℕ) → is_plain text ≡ false → codes "[" ++ escaped text ++ codes "]" ≡ word_text text
unfolding word_text
bracketed text h = sym (ap (λ b. if b then text else codes "[" ++ escaped text ++ codes "]") h)

pub returns-then-is_plain : goal.returns-then-is_plain
returns-then-is_plain g c =
    let text = c.args.text.now in
    writes-is _ _ _ text (word_text text) c.put.result c.put.ensures (sym (plain text (sym c.is_plain.ensures ∙ c.if-is_plain.true)))

pub returns-in_err-put : goal.returns-in_err-put
returns-in_err-put g c =
    let text = c.args.text.now in
    err-front _ c.from_residual.ensures.0
    (front-is (front-longer (codes "]") (front-longer (escaped text) c.in_err-put.ensures)) (bracketed text (sym c.is_plain.ensures ∙ c.if-is_plain.false)))

pub returns-in_err-put_escaped : goal.returns-in_err-put_escaped
returns-in_err-put_escaped g c =
    let text = c.args.text.now in
    err-front _ c.from_residual-in_err-put_escaped.ensures.0
    (front-is (front-longer (codes "]") (front-then c.in_ok-put.ensures c.in_err-put_escaped.ensures))
    (bracketed text (sym c.is_plain.ensures ∙ c.if-is_plain.false)))

pub returns : goal.returns
returns g c =
    let text = c.args.text.now in
    writes-is _ _ _ (codes "[" ++ escaped text ++ codes "]") (word_text text) c.put-3.result
    (writes-then _ _ _ (all-then c.in_ok-put.ensures c.in_ok-put_escaped.ensures) c.put-3.ensures)
    (bracketed text (sym c.is_plain.ensures ∙ c.if-is_plain.false))
