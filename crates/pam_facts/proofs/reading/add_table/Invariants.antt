-- the rows of the lines so far are added
use Rattle.std.proofs.Common.{◌≡◌, ◌++◌, map}
use Rattle.pam_facts.specs.Reading.{rows_in}
use Rattle.pam_facts.specs.Views.{row_view}
use Rattle.pam_facts.proofs.TableSteps.{texts}
use Rattle.pam_facts.proofs.reading.add_table.Given as goal

abbrev pub invariant-loop-line : goal.invariant-loop-line
invariant-loop-line l = map row_view l.rows.items ≡ map row_view l.fn.rows.items ++ rows_in (texts l.yielded)
