-- The rules and the faults of a file, where each line is read by itself: pam.conf(5), on comments, continued lines and rules.
use Rattle.std.specs.Prelude.{ℕ, List, [], ◌∷◌, filter_map, Result, Ok, Err}
use Rattle.std.specs.Option.{option_map_or}
use Rattle.std.specs.Result.{result_err, result_ok, result_transpose}
use Rattle.pam_text.specs.Source.{source_fault}
use Rattle.pam_text.specs.Text.{FileByte, text_of, lines_of}
use Rattle.pam_conf.specs.Lines.{fault_of_source, rule_at}
use Rattle.pam_conf.specs.Rule.{RuleText}
use Rattle.pam_conf.specs.declared.error.RuleFault.{RuleFault}
use Rattle.pam_conf.specs.declared.rule.Form.{Form}

-- what a line has: a rule or a fault
abbrev pub LineResult : Type 0
LineResult = Result RuleText RuleFault

-- the rule or the fault of each line that has one
unfoldable pub line_results : Form → List (List FileByte) → List LineResult
line_results form lines = filter_map (λ line. result_transpose (rule_at form line)) lines

-- those of a file; a file that is too long or has a NUL byte has that fault alone
unfoldable pub file_results : Form → List ℕ → List LineResult
file_results form bytes =
    option_map_or (λ fault. Err (fault_of_source fault) ∷ []) (source_fault bytes) (line_results form (lines_of (text_of 1 bytes)))

abbrev pub rules_among : List LineResult → List RuleText
rules_among results = filter_map result_ok results

abbrev pub faults_among : List LineResult → List RuleFault
faults_among results = filter_map result_err results

-- THE RULES of the lines of a file that have one
abbrev pub good_rules : Form → List ℕ → List RuleText
good_rules form bytes = rules_among (file_results form bytes)

-- ALL FAULTS of a file: that of the file as a whole, or those of its lines
abbrev pub own_faults : Form → List ℕ → List RuleFault
own_faults form bytes = faults_among (file_results form bytes)

-- rules, unless there is a fault
abbrev pub unless_faulty : List RuleFault → List RuleText → Result (List RuleText) RuleFault
unless_faulty [] rules = Ok rules
unless_faulty (first ∷ faults) rules = Err first
