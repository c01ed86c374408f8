-- the problems so far are written
use Rattle.std.proofs.Common.{take}
use Rattle.pam_text.specs.Out.{TookAll}
use Rattle.pam_report.specs.TablePaths.{table_paths_view}
use Rattle.pam_render.specs.parts.Findings.{table_lines}
use Rattle.pam_render.proofs.parts.findings.put_tables.Given as goal

abbrev pub invariant-loop-finding : goal.invariant-loop-finding
invariant-loop-finding g l =
    TookAll g.W.Write.contents l.initial.out l.out (table_lines g.L.CheckLines.line (table_paths_view l.paths) (take l.finding-index l.tables))
