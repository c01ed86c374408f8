use Rattle.std.proofs.Common.{codes}
use Rattle.pam_codes.proofs.Writing.{all-then, err-front, front-is, front-longer, front-then, writes-is, writes-then}
use Rattle.pam_render.specs.sentences.Shown.{shown_word}
use Rattle.pam_render.proofs.SentencesProofs.ShownTexts.{quoted-is}
use Rattle.pam_render.proofs.sentences.shown.put_quoted.Goals as goal

pub returns-in_err-put : goal.returns-in_err-put
returns-in_err-put g c =
    let word = c.args.word.now in
    err-front _ c.from_residual.ensures.0 (front-is (front-longer (codes "\"") (front-longer (shown_word word) c.in_err-put.ensures)) (quoted-is word))

pub returns-in_err-put_word : goal.returns-in_err-put_word
returns-in_err-put_word g c =
    err-front _ c.from_residual-in_err-put_word.ensures.0
    (front-is (front-longer (codes "\"") (front-then c.in_ok-put.ensures c.in_err-put_word.ensures)) (quoted-is c.args.word.now))

pub returns : goal.returns
returns g c =
    writes-is _ _ _ _ _ _ (writes-then _ _ _ (all-then c.in_ok-put.ensures c.in_ok-put_word.ensures) c.put-2.ensures) (quoted-is c.args.word.now)
