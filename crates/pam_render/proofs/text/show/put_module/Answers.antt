use Rattle.std.proofs.Common.{codes, refl}
use Rattle.pam_codes.proofs.Writing.{all-then, err-front, front-is, front-longer, front-then, writes-is, writes-then}
use Rattle.pam_conf.specs.ItemsOf.{module_text}
use Rattle.pam_render.proofs.TextProofs.ShowTexts.{module_line-is}
use Rattle.pam_render.specs.text.Show.{module_line, words_text}
use Rattle.pam_render.proofs.text.show.put_module.Goals as goal

pub returns-in_err-write_text : goal.returns-in_err-write_text
unfolding module_line
returns-in_err-write_text g c =
    err-front _ c.from_residual-in_err-write_text.ensures.0
    (front-longer _ (front-longer _ (front-longer _ (front-then c.in_ok-put_front.ensures c.in_err-write_text.ensures))))

pub returns-in_err-put_one_word : goal.returns-in_err-put_one_word
returns-in_err-put_one_word g c =
    let m = module_text c.args.module.now in
    err-front _ c.from_residual-in_err-put_one_word.ensures.0
    (front-is
    (front-longer (codes "\n")
    (front-longer (words_text m.arguments) (front-then (all-then c.in_ok-put_front.ensures c.in_ok-write_text.ensures) c.in_err-put_one_word.ensures)))
    (module_line-is c.args.at.files.now c.args.at.level m c.deref.result.now m.arguments c.deref.ensures.value refl))

pub returns-in_err-put_words : goal.returns-in_err-put_words
returns-in_err-put_words g c =
    let m = module_text c.args.module.now in
    err-front _ c.from_residual-in_err-put_words.ensures.0
    (front-is
    (front-longer (codes "\n") (front-then (all-then (all-then c.in_ok-put_front.ensures c.in_ok-write_text.ensures) c.in_ok-put_one_word.ensures)
    c.in_err-put_words.ensures))
    (module_line-is c.args.at.files.now c.args.at.level m c.deref.result.now m.arguments c.deref.ensures.value refl))

pub returns : goal.returns
returns g c =
    let m = module_text c.args.module.now in
    writes-is _ _ _ _ _ _
    (writes-then _ (codes "\n") _
    (all-then (all-then (all-then c.in_ok-put_front.ensures c.in_ok-write_text.ensures) c.in_ok-put_one_word.ensures) c.in_ok-put_words.ensures)
    c.put.ensures)
    (module_line-is c.args.at.files.now c.args.at.level m c.deref.result.now m.arguments c.deref.ensures.value refl)
