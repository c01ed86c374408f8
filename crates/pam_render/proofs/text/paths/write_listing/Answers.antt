use Rattle.std.proofs.Common.{◌∙◌, ap}
use Rattle.pam_codes.proofs.Writing.{all-is, err-flushes, flushes-then, front-is, front-longer}
use Rattle.pam_conf.specs.Stack.{Items, module_count}
use Rattle.pam_report.specs.PageView.{page_value}
use Rattle.pam_render.proofs.TextProofs.PageTexts.{header-is}
use Rattle.pam_render.proofs.text.paths.write_listing.Goals as goal

pub returns-in_err-put_header : goal.returns-in_err-put_header
returns-in_err-put_header g c =
    let modules = c.modules.ensures.count ∙ ap (λ (items : Items). module_count items) c.stack.ensures in
    let header = header-is (page_value c.args.page.now) c.service.ensures c.kind.ensures modules in
    err-flushes _ c.from_residual.ensures.0 (front-longer _ (front-is c.in_err-put_header.ensures header))

pub returns : goal.returns
returns g c =
    let modules = c.modules.ensures.count ∙ ap (λ (items : Items). module_count items) c.stack.ensures in
    let header = header-is (page_value c.args.page.now) c.service.ensures c.kind.ensures modules in
    flushes-then _ _ _ (all-is c.in_ok-put_header.ensures header) c.write_lines.ensures
