-- For private contracts and proofs alone: the rules of a policy file, as lines are added.
use Rattle.std.specs.Prelude.{ℕ, List, [], ◌∷◌, ◌++◌, Result, Ok, Err}
use Rattle.pam_policy.specs.declared.text.error.PolicyError.{PolicyError}
use Rattle.pam_policy.specs.declared.text.error.PolicyFault.{PolicyFault}
use Rattle.pam_policy.specs.text.Policy.{counted_rule}
use Rattle.pam_policy.specs.text.Rules.{RuleText}

-- rules, and those that are read after them
abbrev pub after_rules : List RuleText → Result (List RuleText) PolicyError → Result (List RuleText) PolicyError
after_rules first (Ok rules) = Ok (first ++ rules)
after_rules first (Err error) = Err error

-- rules, and that of one more line
abbrev pub and_rule : List RuleText → Result RuleText PolicyFault → Result (List RuleText) PolicyFault
and_rule rules (Ok rule) = Ok (rules ++ rule ∷ [])
and_rule rules (Err fault) = Err fault

abbrev pub with_line : List RuleText → ℕ → ℕ → List (List ℕ) → Result (List RuleText) PolicyFault
with_line rules before line [] = Ok rules
with_line rules before line (word ∷ words) = and_rule rules (counted_rule before line (word ∷ words))
