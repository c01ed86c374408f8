use Rattle.std.proofs.Common.{◌++◌, codes, refl}
use Rattle.pam_text.proofs.Writing.{err-front, front-is, front-longer, front-then, writes-is, writes-then}
use Rattle.pam_render.proofs.JsonLinesProofs.Lists.{lists-are}
use Rattle.pam_render.specs.parts.CheckNames.{names_view}
use Rattle.pam_render.specs.sarif.Results.{numbered_result, table_result, unused_result}
use Rattle.pam_render.specs.sarif.inner.Written.{found_text, tables_text, unused_text}
use Rattle.pam_report.specs.ReplyViews.{check_view}
use Rattle.pam_render.proofs.sarif.results.put_results.Goals as goal

pub returns-in_err-put : goal.returns-in_err-put
returns-in_err-put g c =
    let names = names_view c.args.names.now in
    let value = check_view c.args.reply.now in
    err-front _ c.from_residual.ensures.0
    (front-is (front-longer (found_text names value ++ (tables_text value ++ (unused_text value ++ codes "]"))) c.in_err-put.ensures)
    (lists-are (numbered_result names value.misspelled) (table_result value.table_paths) (unused_result value.accept value.facts)
    value.found value.tables value.unused _ _
    refl refl))

pub returns-in_err-put_found : goal.returns-in_err-put_found
returns-in_err-put_found g c =
    let names = names_view c.args.names.now in
    let value = check_view c.args.reply.now in
    err-front _ c.from_residual-in_err-put_found.ensures.0
    (front-is
    (front-then c.in_ok-put.ensures (front-longer (tables_text value ++ (unused_text value ++ codes "]")) c.in_err-put_found.ensures))
    (lists-are (numbered_result names value.misspelled) (table_result value.table_paths) (unused_result value.accept value.facts)
    value.found value.tables value.unused _ _
    refl refl))

pub returns-in_err-put_tables : goal.returns-in_err-put_tables
returns-in_err-put_tables g c =
    let names = names_view c.args.names.now in
    let value = check_view c.args.reply.now in
    err-front _ c.from_residual-in_err-put_tables.ensures.0
    (front-is
    (front-then c.in_ok-put.ensures
    (front-then c.in_ok-put_found.ensures (front-longer (unused_text value ++ codes "]") c.in_err-put_tables.ensures)))
    (lists-are (numbered_result names value.misspelled) (table_result value.table_paths) (unused_result value.accept value.facts)
    value.found value.tables value.unused _ _
    refl refl))

pub returns-in_err-put_unused_lines : goal.returns-in_err-put_unused_lines
returns-in_err-put_unused_lines g c =
    let names = names_view c.args.names.now in
    let value = check_view c.args.reply.now in
    err-front _ c.from_residual-in_err-put_unused_lines.ensures.0
    (front-is
    (front-then c.in_ok-put.ensures
    (front-then c.in_ok-put_found.ensures
    (front-then c.in_ok-put_tables.ensures (front-longer (codes "]") c.in_err-put_unused_lines.ensures))))
    (lists-are (numbered_result names value.misspelled) (table_result value.table_paths) (unused_result value.accept value.facts)
    value.found value.tables value.unused _ _
    refl refl))

pub returns : goal.returns
returns g c =
    let names = names_view c.args.names.now in
    let value = check_view c.args.reply.now in
    writes-is _ _ _ _ _ _
    (writes-then _ _ _ c.in_ok-put.ensures
    (writes-then _ _ _ c.in_ok-put_found.ensures
    (writes-then _ _ _ c.in_ok-put_tables.ensures (writes-then _ _ _ c.in_ok-put_unused_lines.ensures c.put-2.ensures))))
    (lists-are (numbered_result names value.misspelled) (table_result value.table_paths) (unused_result value.accept value.facts)
    value.found value.tables value.unused _ _
    refl refl)
