use Rattle.std.proofs.Common.{◌∙◌}
use Rattle.pam_codes.proofs.Writing.{all-is, all-then, err-flushes, flushes-last, front-is, front-longer, front-then}
use Rattle.pam_report.specs.PageView.{page_value}
use Rattle.pam_render.proofs.JsonTextProofs.AnswerLines.{page-is, page_line-is}
use Rattle.pam_render.proofs.json_text.paths.write_listing.Goals as goal

pub returns-in_err-put_stack : goal.returns-in_err-put_stack
returns-in_err-put_stack g c =
    let page = page_value c.args.page.now in
    err-flushes _ c.from_residual.ensures.0
    (front-longer _ (front-is c.in_err-put_stack.ensures (page_line-is page c.service.ensures c.kind.ensures c.stack-stack.ensures c.modules.ensures.count)))

pub returns-in_err-put_paths : goal.returns-in_err-put_paths
returns-in_err-put_paths g c =
    let page = page_value c.args.page.now in
    err-flushes _ c.from_residual-in_err-put_paths.ensures.0
    (front-then (all-is c.in_ok-put_stack.ensures (page_line-is page c.service.ensures c.kind.ensures c.stack-stack.ensures c.modules.ensures.count))
    (front-is c.in_err-put_paths.ensures (page-is page _ _ (c.of-paths.ensures ∙ c.stack-stack.ensures) c.limit.ensures.most)))

pub returns : goal.returns
returns g c =
    let page = page_value c.args.page.now in
    flushes-last _ _
    (all-then (all-is c.in_ok-put_stack.ensures (page_line-is page c.service.ensures c.kind.ensures c.stack-stack.ensures c.modules.ensures.count))
    (all-is c.in_ok-put_paths.ensures (page-is page _ _ (c.of-paths.ensures ∙ c.stack-stack.ensures) c.limit.ensures.most)))
    c.finish.ensures
