use Rattle.std.proofs.Common.{◌++◌, codes, false}
use Rattle.pam_text.proofs.Writing.{err-front, front-is, front-longer, front-then, writes-is, writes-then}
use Rattle.pam_render.proofs.JsonLinesProofs.Arrays.{array-is}
use Rattle.pam_render.specs.json_lines.Line.{separated}
use Rattle.pam_render.specs.sarif.Rules.{rules_of}
use Rattle.pam_report.specs.ReplyViews.{check_view}
use Rattle.pam_render.proofs.sarif.rules.put_rules.Goals as goal

pub returns-in_err-put : goal.returns-in_err-put
returns-in_err-put g c =
    let rules = rules_of (check_view c.args.reply.now) in
    err-front _ c.from_residual.ensures.0 (front-is (front-longer (separated false rules ++ codes "]") c.in_err-put.ensures) (array-is rules))

pub returns-in_err-put_all_rules : goal.returns-in_err-put_all_rules
returns-in_err-put_all_rules g c =
    err-front _ c.from_residual-in_err-put_all_rules.ensures.0
    (front-is (front-then c.in_ok-put.ensures (front-longer (codes "]") c.in_err-put_all_rules.ensures)) (array-is (rules_of (check_view c.args.reply.now))))

pub returns : goal.returns
returns g c =
    writes-is _ _ _ _ _ _ (writes-then _ _ _ c.in_ok-put.ensures (writes-then _ _ _ c.in_ok-put_all_rules.ensures c.put-2.ensures))
    (array-is (rules_of (check_view c.args.reply.now)))
