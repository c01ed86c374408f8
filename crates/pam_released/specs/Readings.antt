-- The rules of a file by a release, each with the number of its first line.
use Rattle.std.specs.Prelude.{ℕ, List, Option, map}
use Rattle.std.specs.Option.{option_map}
use Rattle.pam_conf.specs.Rule.{body_view}
use Rattle.pam_conf.specs.declared.rule.Form.{Form}
use Rattle.pam_released.specs.Numbered.{NumberedLine, numbered_lines}
use Rattle.pam_released.specs.Rules.{FailingRule, Fails, LineRule, Reading, Reads, Refuses, line_reading, rules_152, rules_170}
use Rattle.pam_released.specs.Words.{line_words}
use Rattle.pam_released.specs.declared.reading.FailingRule.{FailingRule as KeptFailing}
use Rattle.pam_released.specs.declared.reading.LineRule.{LineRule as KeptRule}
use Rattle.pam_released.specs.declared.reading.NumberedReading.{NumberedReading}
use Rattle.pam_released.specs.declared.reading.Reading.{Reading as KeptReading}
use Rattle.pam_released.specs.declared.reading.Reading.TheVariants as kept
use Rattle.pam_released.specs.declared.release.Release.{Release}
use Rattle.pam_released.specs.declared.release.Release.TheVariants.{Older, Newer}

-- the rules by a release
abbrev pub rules_by : Release → Form → List ℕ → Option (List Reading)
rules_by Older form bytes = rules_152 form bytes
rules_by Newer form bytes = rules_170 form bytes

-- the number of the physical line at which a rule begins, and what is read there
abbrev pub NumberedRule : Type 0
NumberedRule = ℕ × Reading

abbrev pub numbered_reading : Release → Form → NumberedLine → NumberedRule
numbered_reading release form line = (line.start, line_reading release form (line_words line))

-- THE RULES OF A FILE by a release, with the numbers of their lines. None where it is refused as a whole
abbrev pub numbered_rules : Release → Form → List ℕ → Option (List NumberedRule)
numbered_rules release form bytes = option_map (map (numbered_reading release form)) (numbered_lines release bytes)

-- AS THE CODE KEEPS THEM

abbrev pub rule_view : KeptRule → LineRule
rule_view rule = record {
  service = option_map (λ s. s.items) rule.service;
  kind = rule.kind;
  dashed = rule.dashed;
  body = body_view rule.body;
}

abbrev pub failing_view : KeptFailing → FailingRule
failing_view rule = record { service = option_map (λ s. s.items) rule.service; kind = rule.kind; actions = rule.control }

abbrev pub reading_view : KeptReading → Reading
reading_view (kept.Rule rule) = Reads (rule_view rule)
reading_view (kept.Fails rule) = Fails (failing_view rule)
reading_view (kept.Refuses service) = Refuses (option_map (λ s. s.items) service)

abbrev pub numbered_view : NumberedReading → NumberedRule
numbered_view rule = (rule.line, reading_view rule.reading)
