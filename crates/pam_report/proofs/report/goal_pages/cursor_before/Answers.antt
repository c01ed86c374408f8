use Rattle.std.proofs.Common.{◌∙◌}
use Rattle.pam_conf.specs.Stack.{module_count}
use Rattle.pam_paths.specs.Known.{may_answer}
use Rattle.pam_paths.specs.Listing.{IsListingBefore}
use Rattle.pam_paths.specs.Paths.{path_through}
use Rattle.pam_report.proofs.PageParts.{cursor-refused, cursor-taken, text-refused}
use Rattle.pam_report.proofs.report.goal_pages.cursor_before.Goals as goal

pub returns-in-Err-clause-err : goal.returns-in-Err-clause-err
returns-in-Err-clause-err c items program =
    let IsRest = IsListingBefore (may_answer c.args.paging.now.known.now) (module_count items) (path_through items) in
    text-refused IsRest items _ _ _ c.as_bytes.ensures.value c.in-Err.ensures.err

pub returns-in-Ok-before-clause-ok : goal.returns-in-Ok-before-clause-ok
returns-in-Ok-before-clause-ok c items program =
    let explored = c.in-Ok-before.ensures in
    let known = may_answer c.args.paging.now.known.now in
    let same = c.in-Ok.ensures.ok ∙ c.as_bytes.ensures.value in
    let taken = cursor-taken items c.args.text.now c.in-Ok.cursor _ program.1 c.in-Ok.ensures.cursor same
    (λ n. IsListingBefore known n (path_through items)) _ (explored.tree items program.0) (explored.stack items program.0) in
    (_, explored.stack items program.0, taken)

pub returns-in-Err-before-clause-err : goal.returns-in-Err-before-clause-err
returns-in-Err-before-clause-err c items program =
    let IsRest = IsListingBefore (may_answer c.args.paging.now.known.now) (module_count items) (path_through items) in
    let same = c.in-Ok.ensures.ok ∙ c.as_bytes.ensures.value in
    cursor-refused items _ c.in-Ok.cursor _ program.1 c.in-Ok.ensures.cursor same IsRest _ (c.in-Err-before.ensures.tree items program.0)
