-- For private contracts and proofs alone: the rules that a table of time.conf(5) holds.
use Rattle.std.specs.Prelude.{◌≡◌, true}
use Rattle.pam_tables.specs.times.RuleLines.{are_rules}
use Rattle.pam_tables.specs.declared.times.rule_lines.RuleLines.{RuleLines}

abbrev pub AreStored : RuleLines → Type 0
AreStored r = are_rules r.text.items r.lines.items ≡ true
