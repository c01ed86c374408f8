-- A line of a check, as a value.
use Rattle.pam_report.specs.TablePaths.{table_paths_view}
use Rattle.pam_report.specs.Unused.{unused_view}
use Rattle.pam_render.specs.parts.CheckNames.{names_view, word_of}
use Rattle.pam_render.specs.parts.Findings as spec
use Rattle.pam_render.specs.declared.parts.findings.line.CheckLine.{CheckLine}
use Rattle.pam_render.specs.declared.parts.findings.line.CheckLine.TheVariants as lines

abbrev pub line_view : CheckLine → spec.Line
line_view (lines.Found found) = spec.Found (names_view found.names.now) found.entry.now (word_of found.word)
line_view (lines.InTable paths finding) = spec.InTable (table_paths_view paths.now) finding
line_view (lines.Unused file line) = spec.Unused file.now (unused_view line.now)
line_view (lines.Last services counts) = spec.Last services counts
