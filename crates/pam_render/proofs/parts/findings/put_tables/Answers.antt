use Rattle.std.proofs.Common.{◌+◌, drop}
use Rattle.std.specs.List.{flat_map}
use Rattle.pam_text.proofs.Writing.{err-front, front-is, front-longer, front-then}
use Rattle.pam_text.proofs.FlatTexts.{flat_map-at}
use Rattle.pam_report.specs.TablePaths.{table_paths_view}
use Rattle.pam_findings.specs.declared.tables.problem.TableFinding.{TableFinding}
use Rattle.pam_render.specs.parts.Findings.{InTable}
use Rattle.pam_render.proofs.parts.findings.put_tables.Goals as goal

pub returns-in_err-put_line : goal.returns-in_err-put_line
returns-in_err-put_line g c =
    let tables = c.args.tables.now in
    let line = λ (finding : TableFinding). g.L.CheckLines.line (InTable (table_paths_view c.args.paths.now) finding) in
    let index = c.loop-finding.finding-index in
    err-front _ c.from_residual.ensures.0
    (front-is
    (front-longer (flat_map line (drop (index + 1) tables)) (front-then c.loop-finding.invariant c.in_err-put_line.ensures))
    (flat_map-at line tables index _ c.loop-finding-test.true))
