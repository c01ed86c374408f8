-- Lines without their layout in memory, and their keys.
use Rattle.pam_findings.specs.accepted.Lines.{Accepted}
use Rattle.pam_findings.specs.declared.accepted.lines.AcceptLine.{AcceptLine}

-- a line as its number and its key
abbrev pub line_view : AcceptLine → Accepted
line_view line = (line.number, line.key.items)
