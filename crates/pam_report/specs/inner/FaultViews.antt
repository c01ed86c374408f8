-- For private contracts and proofs alone: a row of the table of faults, as contracts see it.
use Rattle.pam_report.specs.FaultTable as spec
use Rattle.pam_report.specs.declared.fault.row.Row.{Row}

abbrev pub row_view : Row → spec.Row
row_view r = spec.row r.name.now r.status
