-- The text of `needs`: the rules that hold of a stack, as a policy.
use Rattle.std.specs.Prelude.{ℕ, List, ◌++◌, codes, Option, None, Some}
use Rattle.std.specs.List.{flat_map}
use Rattle.pam_conf.specs.Stack.{module_count}
use Rattle.pam_policy.specs.needs.Suggestions.{SuggestionText}
use Rattle.pam_report.specs.Reply.{NeedsValue}
use Rattle.pam_render.specs.sentences.Needs.{rule_phrases}
use Rattle.pam_render.specs.sentences.Phrases.{phrase_text}
use Rattle.pam_render.specs.text.Header.{header_text}

-- `SERVICE KIND SENTENCE`
abbrev pub rule_line : NeedsValue → SuggestionText → List ℕ
rule_line value rule = flat_map phrase_text (rule_phrases value rule) ++ codes "\n"

-- a line for each rule; or, where no answers let anybody in, that there is no way in
abbrev pub rules_text : NeedsValue → Option (List SuggestionText) → List ℕ
rules_text value None = codes "# no way in\n"
rules_text value (Some rules) = flat_map (rule_line value) rules

-- THE TEXT of `needs`. The header is a comment, so that all of it is a policy
abbrev pub needs_text : NeedsValue → List ℕ
needs_text value =
    codes "# " ++ header_text value.service value.kind (module_count value.items) ++ rules_text value value.rules
