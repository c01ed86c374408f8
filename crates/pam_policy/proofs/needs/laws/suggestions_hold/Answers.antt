use Rattle.pam_policy.proofs.NeedsProofs.Laws.{arguments-say-no-more, each-name, each-rule-holds}
use Rattle.pam_policy.proofs.needs.laws.suggestions_hold.Goals as goal

pub returns-clause-each : goal.returns-clause-each
returns-clause-each c = each-rule-holds

pub returns-clause-names : goal.returns-clause-names
returns-clause-names c = each-name

pub returns-clause-arguments : goal.returns-clause-arguments
returns-clause-arguments c = arguments-say-no-more
