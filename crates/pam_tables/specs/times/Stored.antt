-- The rules that a table of time.conf(5) holds.
use Rattle.std.specs.Prelude.{List}
use Rattle.pam_tables.specs.times.RuleLines.{rules_at}
use Rattle.pam_tables.specs.times.Times.{Rule}
use Rattle.pam_tables.specs.declared.times.rule_lines.RuleLines.{RuleLines}

abbrev pub stored : RuleLines → List Rule
stored r = rules_at r.text.items r.lines.items
