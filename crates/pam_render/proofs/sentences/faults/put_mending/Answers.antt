use Rattle.std.proofs.Common.{codes}
use Rattle.pam_codes.proofs.Writing.{all-then, err-front, front-is, front-longer, front-then, writes-is, writes-then}
use Rattle.pam_render.specs.sentences.Shown.{quoted}
use Rattle.pam_render.proofs.SentencesProofs.NamedWords.{asked-is, told-is}
use Rattle.pam_render.proofs.sentences.faults.put_mending.Goals as goal

pub returns-in_default : goal.returns-in_default
returns-in_default g c =
    writes-is _ _ _ _ _ _ c.put_line.ensures (told-is c.args.nearest c.args.mending.now _ c.in_default.is c.as_bytes.ensures.value)

pub returns-in_err-put : goal.returns-in_err-put
returns-in_err-put g c =
    err-front _ c.from_residual.ensures.0
    (front-is (front-longer (codes "?") (front-longer (quoted c.in-Some.right.now) c.in_err-put.ensures))
    (asked-is c.args.nearest c.in-Some.right c.args.mending.now c.in-Some.is))

pub returns-in_err-put_quoted : goal.returns-in_err-put_quoted
returns-in_err-put_quoted g c =
    err-front _ c.from_residual-in_err-put_quoted.ensures.0
    (front-is (front-longer (codes "?") (front-then c.in_ok-put.ensures c.in_err-put_quoted.ensures))
    (asked-is c.args.nearest c.in-Some.right c.args.mending.now c.in-Some.is))

pub returns : goal.returns
returns g c =
    writes-is _ _ _ _ _ _ (writes-then _ _ _ (all-then c.in_ok-put.ensures c.in_ok-put_quoted.ensures) c.put-2.ensures)
    (asked-is c.args.nearest c.in-Some.right c.args.mending.now c.in-Some.is)
