use Rattle.std.proofs.Common.{ℕ, List, ap₂}
use Rattle.pam_tables.specs.times.RuleLines.{are_rules, rules_at}
use Rattle.pam_tables.specs.declared.times.rule_lines.RuleLine.{RuleLine}
use Rattle.pam_tables.proofs.times.rule_lines.RuleLines.new.Goals as goal

pub returns-clause-rules : goal.returns-clause-rules
unfolding rules_at
returns-clause-rules c = ap₂ (λ (text : List ℕ) (lines : List RuleLine). rules_at text lines) c.new.ensures.items c.new-2.ensures.items

pub returns-clause-stored : goal.returns-clause-stored
unfolding are_rules
returns-clause-stored c = ap₂ (λ (text : List ℕ) (lines : List RuleLine). are_rules text lines) c.new.ensures.items c.new-2.ensures.items
