use Rattle.std.proofs.Common.{◌≡◌, ℕ, List, ◌++◌, true, false, if◌then◌else◌, codes, sym, ap, ◌∙◌}
use Rattle.pam_codes.proofs.Writing.{all-then, err-front, front-then, front-longer, front-is, writes-then, writes-is}
use Rattle.pam_render.specs.sentences.Shown.{name_within, shown_name}
use Rattle.pam_render.specs.text.WordText.{is_plain, shown_word_text}
use Rattle.pam_render.proofs.text.word.put_shown_word.Goals as goal

plain : (text : List ℕ) → is_plain text ≡ true → shown_name text ≡ shown_word_text text
unfolding shown_word_text
plain text h = sym (ap (λ b. if b then shown_name text else codes "[" ++ name_within text ++ codes "]") h)

bracketed : (text : List ℕ) → is_plain text ≡ false → codes "[" ++ name_within text ++ codes "]" ≡ shown_word_text text
unfolding shown_word_text
bracketed text h = sym (ap (λ b. if b then shown_name text else codes "[" ++ name_within text ++ codes "]") h)

pub returns-then-is_plain : goal.returns-then-is_plain
returns-then-is_plain g c = writes-is _ _ _ _ _ _ c.put_name.ensures (plain c.args.text.now (sym c.is_plain.ensures ∙ c.if-is_plain.true))

pub returns-in_err-put : goal.returns-in_err-put
returns-in_err-put g c =
    let text = c.args.text.now in
    err-front _ c.from_residual.ensures.0
    (front-is (front-longer (codes "]") (front-longer (name_within text) c.in_err-put.ensures))
    (bracketed text (sym c.is_plain.ensures ∙ c.if-is_plain.false)))

pub returns-in_err-put_name_within : goal.returns-in_err-put_name_within
returns-in_err-put_name_within g c =
    err-front _ c.from_residual-in_err-put_name_within.ensures.0
    (front-is (front-longer (codes "]") (front-then c.in_ok-put.ensures c.in_err-put_name_within.ensures))
    (bracketed c.args.text.now (sym c.is_plain.ensures ∙ c.if-is_plain.false)))

pub returns : goal.returns
returns g c =
    writes-is _ _ _ _ _ _ (writes-then _ _ _ (all-then c.in_ok-put.ensures c.in_ok-put_name_within.ensures) c.put-2.ensures)
    (bracketed c.args.text.now (sym c.is_plain.ensures ∙ c.if-is_plain.false))
