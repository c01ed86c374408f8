-- The rules of a file: pam.conf(5), on comments, continued lines and rules.
use Rattle.std.specs.Prelude.{ℕ, List, [], ◌∷◌, map, Option, Some, None, Result, Ok, Err}
use Rattle.std.specs.Option.{option_map_or}
use Rattle.pam_text.specs.Source.{source_fault}
use Rattle.pam_text.specs.Text.{FileByte, text_of, lines_of}
use Rattle.pam_text.specs.declared.source.SourceFault.{SourceFault}
use Rattle.pam_text.specs.declared.source.SourceFault.TheVariants.{TooLong, NulByte}
use Rattle.pam_conf.specs.Words.{words_or_fault}
use Rattle.pam_conf.specs.Rule.{RuleText, rule_of, ◌>>=◌}
use Rattle.pam_conf.specs.declared.error.FaultKind.{FaultKind}
use Rattle.pam_conf.specs.declared.error.FaultKind.TheVariants as faults
use Rattle.pam_conf.specs.declared.error.RuleFault.{RuleFault}
use Rattle.pam_conf.specs.declared.rule.Form.{Form}

-- the rule of the line with this number, if it has one
unfoldable pub line_rule_of : Form → ℕ → List ℕ → Result (Option RuleText) FaultKind
line_rule_of form number bytes = words_or_fault bytes >>= rule_of form number

-- the number of a line: that of its first byte
abbrev pub line_number : List FileByte → ℕ
line_number [] = 0
line_number (m ∷ ms) = m.0

-- the result of a line, with its number in a fault
abbrev pub at_line : {A : Type 0} → ℕ → Result A FaultKind → Result A RuleFault
at_line line (Ok x) = Ok x
at_line line (Err kind) = Err record { kind = kind; line = line }

-- the rule of a line, if it has one, or its fault
abbrev pub rule_at : Form → List FileByte → Result (Option RuleText) RuleFault
rule_at form line = at_line (line_number line) (line_rule_of form (line_number line) (map (λ m. m.1) line))

-- the rule of a line, followed by those of other lines
abbrev pub onto_rules : Result (Option RuleText) RuleFault → Result (List RuleText) RuleFault → Result (List RuleText) RuleFault
onto_rules (Err fault) others = Err fault
onto_rules (Ok None) others = others
onto_rules (Ok (Some rule)) (Ok rules) = Ok (rule ∷ rules)
onto_rules (Ok (Some rule)) (Err fault) = Err fault

-- the rules of lines, or the first fault
unfoldable pub rules_in : Form → List (List FileByte) → Result (List RuleText) RuleFault
rules_in form [] = Ok []
rules_in form (line ∷ lines) = onto_rules (rule_at form line) (rules_in form lines)

-- the fault of a file as a whole
abbrev pub fault_of_source : SourceFault → RuleFault
fault_of_source TooLong = record { kind = faults.FileTooLong; line = 0 }
fault_of_source (NulByte line) = record { kind = faults.NulByte; line = line }

-- THE RULES OF A FILE, or its first fault
unfoldable pub rules_of : Form → List ℕ → Result (List RuleText) RuleFault
rules_of form bytes = option_map_or (λ fault. Err (fault_of_source fault)) (source_fault bytes) (rules_in form (lines_of (text_of 1 bytes)))
