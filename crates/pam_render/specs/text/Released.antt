-- The text of `show` with `--as`: the rules of a file, line by line, in the order of pam.conf(5).
use Rattle.std.specs.Prelude.{ℕ, Bool, true, false, List, ◌∷◌, [], ◌++◌, codes, decimal, length, map, Option, None, Some}
use Rattle.std.specs.Char.{to_ascii_lowercase}
use Rattle.std.specs.List.{concat, flat_map}
use Rattle.pam_codes.specs.ControlText.{control_text}
use Rattle.pam_codes.specs.declared.action.Action.{Action}
use Rattle.pam_conf.specs.Rule.{Include, Module, RuleBody, Sub}
use Rattle.pam_conf.specs.declared.rule.Kind.{Kind}
use Rattle.pam_released.specs.Readings.{NumberedRule}
use Rattle.pam_released.specs.Rules.{FailingRule, Fails, LineRule, Reading, Reads, Refuses}
use Rattle.pam_report.specs.Released.{ReleasedValue}
use Rattle.pam_words.specs.declared.wanted.ReleaseName.{ReleaseName}
use Rattle.pam_words.specs.declared.wanted.ReleaseName.TheVariants.{LinuxPam15, LinuxPam17}
use Rattle.pam_render.specs.text.Header.{kind_name}
use Rattle.pam_render.specs.text.WordText.{shown_word_text}

-- the name of a release, as `--as` takes it
abbrev pub release_text : ReleaseName → List ℕ
release_text LinuxPam15 = codes "linux-pam-1.5"
release_text LinuxPam17 = codes "linux-pam-1.7"

-- `SERVICE KIND as RELEASE`, with the service in lowercase
unfoldable pub release_front : List ℕ → Kind → ReleaseName → List ℕ
release_front service kind release =
    concat (map to_ascii_lowercase service ∷ codes " " ∷ kind_name kind ∷ codes " as " ∷ release_text release ∷ [])

-- ` N rules`, or ` refused`
abbrev pub count_text : Option (List NumberedRule) → List ℕ
count_text None = codes " refused\n"
count_text (Some rules) = concat (codes " " ∷ decimal (length rules) ∷ codes " rules\n" ∷ [])

-- the service of a rule of pam.conf, with a space before it
abbrev pub service_text : Option (List ℕ) → List ℕ
service_text None = []
service_text (Some service) = codes " " ++ shown_word_text service

-- the text before a kind, with the dash of a dashed rule
abbrev pub kind_front : Bool → List ℕ
kind_front true = codes " -"
kind_front false = codes " "

-- a rule without a kind is an `@include`
abbrev pub kind_text : Option Kind → List ℕ
kind_text None = codes "@include"
kind_text (Some kind) = kind_name kind

-- the word before the target of an include, which an `@include` lacks
abbrev pub include_text : Option Kind → List ℕ
include_text None = []
include_text (Some kind) = codes " include"

-- words, in which no control character is left, with a space before each
abbrev pub shown_words : List (List ℕ) → List ℕ
shown_words words = flat_map (λ word. codes " " ++ shown_word_text word) words

-- `CONTROL PATH ARGUMENT...`, with a space before each word
abbrev pub module_words : List Action → List ℕ → List (List ℕ) → List ℕ
module_words control path arguments = codes " " ++ control_text control ++ (codes " " ++ shown_word_text path) ++ shown_words arguments

-- the words after the kind: `CONTROL PATH ARGUMENT...`, `include TARGET` or `substack TARGET`
abbrev pub body_text : Option Kind → RuleBody → List ℕ
body_text kind (Module control path arguments) = module_words control path arguments
body_text kind (Include target) = include_text kind ++ (codes " " ++ shown_word_text target)
body_text kind (Sub target) = codes " substack" ++ (codes " " ++ shown_word_text target)

abbrev pub rule_text : LineRule → List ℕ
rule_text rule = service_text rule.service ++ (kind_front rule.dashed ++ kind_text rule.kind) ++ body_text rule.kind rule.body

-- `fails KIND CONTROL`, with a space before each word
abbrev pub failing_text : FailingRule → List ℕ
failing_text rule = codes " fails" ++ (kind_front false ++ kind_text (Some rule.kind)) ++ codes " " ++ control_text rule.actions

-- a rule, or what one that always fails has; a line that makes the release refuse the configuration is never shown
abbrev pub reading_text : Reading → List ℕ
reading_text (Reads rule) = rule_text rule
reading_text (Fails rule) = failing_text rule
reading_text (Refuses service) = codes " refused"

-- `FILE:LINE RULE`
unfoldable pub rule_line : List ℕ → NumberedRule → List ℕ
rule_line file rule = concat (file ∷ codes ":" ∷ decimal rule.0 ∷ []) ++ reading_text rule.1 ++ codes "\n"

-- the lines of the rules of a file that is not refused
abbrev pub rule_lines : List ℕ → Option (List NumberedRule) → List ℕ
rule_lines file None = []
rule_lines file (Some rules) = flat_map (rule_line file) rules

-- the rules of a kind
abbrev pub released_text : ReleasedValue → List ℕ
released_text value =
    release_front value.service value.kind value.release ++ count_text value.rules ++ rule_lines value.file value.rules

-- THE TEXT of `show` with `--as`: one kind after another
abbrev pub released_texts : List ReleasedValue → List ℕ
released_texts values = flat_map released_text values
