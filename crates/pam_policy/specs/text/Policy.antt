-- The rules of a policy file.
use Rattle.std.specs.Prelude.{ℕ, ◌+◌, List, [], ◌∷◌, nat_lt, Result, Ok, Err, if◌then◌else◌}
use Rattle.std.specs.Option.{option_map_or}
use Rattle.pam_tables.specs.Lines.{lines_from}
use Rattle.pam_text.specs.Source.{source_fault}
use Rattle.pam_policy.specs.declared.text.error.PolicyError.{PolicyError}
use Rattle.pam_policy.specs.declared.text.error.PolicyFault.{PolicyFault}
use Rattle.pam_policy.specs.declared.text.error.PolicyFault.TheVariants.{TooManyRules}
use Rattle.pam_policy.specs.declared.text.policy.TheConstants.{MAX_RULES}
use Rattle.pam_policy.specs.text.Error.{error_at, source_error}
use Rattle.pam_policy.specs.text.Rules.{RuleText, rule_of}
use Rattle.pam_policy.specs.text.Words.{words_of}

-- the rule of a line with these words, after `before` rules
unfoldable pub counted_rule : ℕ → ℕ → List (List ℕ) → Result RuleText PolicyFault
counted_rule before line words = if nat_lt before MAX_RULES then rule_of line words else Err TooManyRules

-- the rule of a line before those of the other lines; its fault comes before theirs
abbrev pub onto_rules : ℕ → Result RuleText PolicyFault → Result (List RuleText) PolicyError → Result (List RuleText) PolicyError
onto_rules line (Err fault) others = Err (error_at fault line)
onto_rules line (Ok rule) (Err error) = Err error
onto_rules line (Ok rule) (Ok rules) = Ok (rule ∷ rules)

-- a line of these words before the others, where a line without words is skipped
abbrev pub onto_lines : ℕ → ℕ → List (List ℕ) → (ℕ → Result (List RuleText) PolicyError) → Result (List RuleText) PolicyError
onto_lines before line [] others = others before
onto_lines before line (word ∷ words) others = onto_rules line (counted_rule before line (word ∷ words)) (others (before + 1))

-- the rules of numbered lines, after `before` rules, or the first fault
unfoldable pub rules_from : List (ℕ × List ℕ) → ℕ → Result (List RuleText) PolicyError
rules_from [] before = Ok []
rules_from (line ∷ lines) before = onto_lines before line.0 (words_of line.1) (rules_from lines)

-- THE RULES of a policy file, after `before` rules of earlier files, or its first fault
unfoldable pub rules_of : List ℕ → ℕ → Result (List RuleText) PolicyError
rules_of bytes before = option_map_or (λ fault. Err (source_error fault)) (source_fault bytes) (rules_from (lines_from 1 bytes) before)
