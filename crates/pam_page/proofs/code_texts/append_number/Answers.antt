use Rattle.std.proofs.Common.{◌∙◌, ◌++◌, List, ap, arith, cond, ℕ}
use Rattle.pam_page.proofs.CodeTexts.{number_front}
use Rattle.pam_page.proofs.code_texts.append_number.Goals as goal

pub returns : goal.returns
returns c =
    let cursor = c.args.cursor.now in
    c.append_front.ensures
    ∙ ap (λ (l : List ℕ). cond c.append_front.result (cursor ++ l) cursor)
    (number_front c.args.code c.from.result c.number-number.result c.number_len.result _
    (omega (arith, c.number-number.ensures.value, c.number-number.ensures.range))
    c.number-number.ensures.value c.from.ensures c.number_len.ensures)
