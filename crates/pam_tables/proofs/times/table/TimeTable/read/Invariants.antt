use Rattle.std.proofs.Common.{◌≡◌, length}
use Rattle.pam_text.specs.Left.{text_left}
use Rattle.pam_text.specs.Text.{text_lines, text_of}
use Rattle.pam_tables.specs.times.Reading.{rules_in}
use Rattle.pam_tables.specs.times.Stored.{stored}
use Rattle.pam_tables.specs.times.inner.Stored.{AreStored}
use Rattle.pam_tables.proofs.TimesProofs.ReadingSteps.{with_rules}
use Rattle.pam_tables.proofs.times.table.TimeTable.read.Given as goal

abbrev pub invariant-loop-rules : goal.invariant-loop-rules
invariant-loop-rules l = record {
  same : with_rules (stored l.rules) (rules_in (text_lines (text_left l.text))) ≡ rules_in (text_lines (text_of 1 l.bytes));
  stored : AreStored l.rules;
}

abbrev pub decreases-loop-rules : goal.decreases-loop-rules
decreases-loop-rules l = length l.text.rest.now
