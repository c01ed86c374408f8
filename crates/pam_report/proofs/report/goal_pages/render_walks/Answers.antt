use Rattle.std.proofs.Common.{Err, refl}
use Rattle.pam_paths.specs.declared.knowledge.Known.{Known}
use Rattle.pam_report.proofs.WalkPages.{after-listed, before-listed, refused-listed, whole-listed}
use Rattle.pam_words.specs.declared.wanted.PagePart.TheVariants.{After, Before}
use Rattle.pam_report.proofs.report.goal_pages.render_walks.Goals as goal

pub returns-in-Whole : goal.returns-in-Whole
returns-in-Whole g c =
    let rendered = c.render_all_walks.ensures in
    let listed = whole-listed c.args.paging.now c.args.walks.now.graph c.args.walks.now.goal rendered.0 c.args.part c.in-Whole.is rendered.1 in
    (rendered.0, listed, rendered.2)

pub returns-in-Ok : goal.returns-in-Ok
returns-in-Ok g c =
    let rendered = c.render_walks_after.ensures in
    let listed = after-listed c.args.paging.now c.args.walks.now.graph c.args.walks.now.goal (After c.in-After.text) _ rendered.0 c.args.part
    c.in-After.is refl c.in-Ok.ensures.ok rendered.1 in
    (rendered.0, listed, rendered.2)

pub returns-in-Err : goal.returns-in-Err
returns-in-Err g c =
    let refused = refused-listed c.args.paging.now c.args.walks.now.graph c.args.walks.now.goal Known c.args.part (After c.in-After.text) _
    c.in-After.is c.in-Err.ensures.err in
    (Err c.in-Err.fault, refused, (refl, refl))

pub returns-in-Ok-cursor_before : goal.returns-in-Ok-cursor_before
returns-in-Ok-cursor_before g c =
    let rendered = c.render_walks_before.ensures in
    let listed = before-listed c.args.paging.now c.args.walks.now.graph c.args.walks.now.goal (Before c.in-Before.text) _ rendered.0 c.args.part
    c.in-Before.is refl c.in-Ok-cursor_before.ensures.ok rendered.1 in
    (rendered.0, listed, rendered.2)

pub returns-in-Err-cursor_before : goal.returns-in-Err-cursor_before
returns-in-Err-cursor_before g c =
    let refused = refused-listed c.args.paging.now c.args.walks.now.graph c.args.walks.now.goal Known c.args.part (Before c.in-Before.text) _
    c.in-Before.is c.in-Err-cursor_before.ensures.err in
    (Err c.in-Err-cursor_before.fault, refused, (refl, refl))
