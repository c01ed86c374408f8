-- Laws of policy files.
use Rattle.std.specs.Prelude.{◌≡◌, ◌≤◌, ◌+◌, ℕ, List, length, Ok}
use Rattle.pam_policy.specs.declared.text.list.TheConstants.{MAX_TOGETHER}
use Rattle.pam_policy.specs.declared.text.policy.TheConstants.{MAX_POLICY_BYTES, MAX_RULES}
use Rattle.pam_policy.specs.text.Policy.{rules_of}
use Rattle.pam_policy.specs.text.Rules.{RuleText}

-- THE LIMITS, by their numbers

abbrev pub MostBytes : Type 0
MostBytes = MAX_POLICY_BYTES ≡ 1048576

abbrev pub MostRules : Type 0
MostRules = MAX_RULES ≡ 1000

abbrev pub MostTogether : Type 0
MostTogether = MAX_TOGETHER ≡ 4

-- the rules of a file that is read, with those before it, are at most 1000
abbrev pub RulesAreFew : Type 0
RulesAreFew = (bytes : List ℕ) (before : ℕ) (rules : List RuleText) → before ≤ 1000 → rules_of bytes before ≡ Ok rules → before + length rules ≤ 1000
