use Rattle.std.proofs.Common.{◌∙◌, ◌==◌, ℕ, Bool, List, ap, ap₂, length, map, not}
use Rattle.pam_findings.specs.declared.host.problem.Place.{Place}
use Rattle.pam_findings.specs.declared.host.report.Finding.{Finding}
use Rattle.pam_findings.specs.declared.tables.problem.TableFinding.{TableFinding}
use Rattle.pam_text.proofs.Writing.{writes-is}
use Rattle.pam_render.specs.json_lines.Line.{separated}
use Rattle.pam_render.specs.sarif.Results.{table_result}
use Rattle.pam_report.specs.TablePaths.{table_paths_view}
use Rattle.pam_render.proofs.sarif.results.put_tables.Goals as goal

pub returns : goal.returns
returns g c =
    let paths = table_paths_view c.args.reply.now.table_paths in
    writes-is _ _ _ _ _ _ c.put_more.ensures
    (ap₂ {A = Bool} {B = List TableFinding} {C = List ℕ} (λ later tables. separated later (map (table_result paths) tables))
    (ap not (c.is_empty.ensures ∙ ap (λ (found : List (Place × Finding)). length found == 0) c.as_slice.ensures.value)) c.deref.ensures.value)
