use Rattle.std.proofs.Common.{◌∙◌, ◌++◌, List, ap, arith, cond, ℕ}
use Rattle.pam_page.proofs.CodeTexts.{name_front, name_len}
use Rattle.pam_page.proofs.code_texts.append_name.Goals as goal

pub append_front-requires : goal.append_front-requires
append_front-requires c = (omega arith, name_len c.args.code c.name-count.result.now c.name-count.ensures)

pub returns : goal.returns
returns c =
    let text = c.args.text.now in
    c.append_front.ensures
    ∙ ap (λ (l : List ℕ). cond c.append_front.result (text ++ l) text)
    (name_front c.args.code c.from.result c.name-count.result.now _ c.name-count.ensures (c.from.ensures ∙ c.number.ensures.value))
