use Rattle.std.proofs.Common.{◌∙◌}
use Rattle.pam_conf.specs.Stack.{module_count}
use Rattle.pam_paths.specs.Known.{may_answer}
use Rattle.pam_paths.specs.Listing.{IsListingAfter}
use Rattle.pam_paths.specs.Paths.{path_through}
use Rattle.pam_report.proofs.PageParts.{cursor-refused, cursor-taken, text-refused}
use Rattle.pam_report.proofs.report.goal_pages.cursor_after.Goals as goal

pub returns-in-Err-clause-err : goal.returns-in-Err-clause-err
returns-in-Err-clause-err c items program =
    let IsRest = IsListingAfter (may_answer c.args.paging.now.known.now) (module_count items) (path_through items) in
    text-refused IsRest items _ _ _ c.as_bytes.ensures.value c.in-Err.ensures.err

pub returns-in-Ok-after-clause-ok : goal.returns-in-Ok-after-clause-ok
returns-in-Ok-after-clause-ok c items program =
    let explored = c.in-Ok-after.ensures in
    let known = may_answer c.args.paging.now.known.now in
    let same = c.in-Ok.ensures.ok ∙ c.as_bytes.ensures.value in
    let taken = cursor-taken items c.args.text.now c.in-Ok.cursor _ program.1 c.in-Ok.ensures.cursor same
    (λ n. IsListingAfter known n (path_through items)) _ (explored.tree items program.0) (explored.stack items program.0) in
    (_, explored.stack items program.0, taken)

pub returns-in-Err-after-clause-err : goal.returns-in-Err-after-clause-err
returns-in-Err-after-clause-err c items program =
    let IsRest = IsListingAfter (may_answer c.args.paging.now.known.now) (module_count items) (path_through items) in
    let same = c.in-Ok.ensures.ok ∙ c.as_bytes.ensures.value in
    cursor-refused items _ c.in-Ok.cursor _ program.1 c.in-Ok.ensures.cursor same IsRest _ (c.in-Err-after.ensures.tree items program.0)
