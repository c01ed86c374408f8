-- The lines of a time.conf(5) table that have a rule, one after another in a text.
use Rattle.std.specs.Prelude.{ℕ, ◌==◌, ◌&&◌, Bool, true, false, List, [], ◌∷◌, length, take, drop, nat_le, Option, Some, Result, Ok}
use Rattle.pam_tables.specs.times.Reading.{rule_of}
use Rattle.pam_tables.specs.times.Times.{Rule}
use Rattle.pam_tables.specs.declared.times.error.TimeFault.{TimeFault}
use Rattle.pam_tables.specs.declared.times.rule_lines.RuleLine.{RuleLine}

abbrev pub has_rule : Result (Option Rule) TimeFault → Bool
has_rule (Ok (Some rule)) = true
has_rule _ = false

-- a text is these lines, and each has a rule
unfoldable pub are_rules : List ℕ → List RuleLine → Bool
are_rules text [] = length text == 0
are_rules text (l ∷ ls) = nat_le l.len (length text) && (has_rule (rule_of l.number (take l.len text)) && are_rules (drop l.len text) ls)

abbrev pub onto : Result (Option Rule) TimeFault → List Rule → List Rule
onto (Ok (Some rule)) rules = rule ∷ rules
onto _ rules = rules

-- the rules of these lines of a text
unfoldable pub rules_at : List ℕ → List RuleLine → List Rule
rules_at text [] = []
rules_at text (l ∷ ls) = onto (rule_of l.number (take l.len text)) (rules_at (drop l.len text) ls)
