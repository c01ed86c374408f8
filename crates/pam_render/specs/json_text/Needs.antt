-- The JSON of `needs`: a line for the stack, for each rule that holds of it, and a last line with their number.
use Rattle.std.specs.Prelude.{ℕ, Bool, true, false, List, [], ◌∷◌, ◌++◌, codes, length, map, Option, None, Some}
use Rattle.std.specs.List.{flat_map}
use Rattle.pam_conf.specs.Stack.{Items, module_count}
use Rattle.pam_policy.specs.declared.needs.event.StackEvent.{StackEvent}
use Rattle.pam_policy.specs.needs.Events.{event_argument, event_name}
use Rattle.pam_policy.specs.needs.Suggestions.{SuggestionText, AlwaysAsks, Needs, NeedsAsked, Obeys}
use Rattle.pam_report.specs.Reply.{NeedsValue}
use Rattle.pam_render.specs.json_lines.Line.{items_of, kind, line, members_of, readable, readable_or_null}
use Rattle.pam_render.specs.json_text.Header.{stack_members}
use Rattle.pam_render.specs.sentences.Needs.{events_in, rule_phrases}
use Rattle.pam_render.specs.sentences.Phrases.{phrase_chars}
use Rattle.serde_json.specs.Data.{Data, array, boolean, number, object, string, unsigned}

-- THE RULE as one string
abbrev pub rule_string : NeedsValue → SuggestionText → Data
rule_string value rule = string (flat_map phrase_chars (rule_phrases value rule))

-- its verb
abbrev pub verb_name : SuggestionText → List ℕ
verb_name (Needs events) = codes "needs"
verb_name (Obeys event) = codes "obeys"
verb_name (NeedsAsked event) = codes "needs"
verb_name (AlwaysAsks event) = codes "asks"

-- any answer of the events is enough: they have to be asked, and no more
abbrev pub is_asked : SuggestionText → Bool
is_asked (NeedsAsked event) = true
is_asked (AlwaysAsks event) = true
is_asked rule = false

-- the name and the argument of an event
abbrev pub event_members : Items → StackEvent → List (List ℕ × Data)
event_members items event =
    (codes "module", readable (event_name items event)) ∷ (codes "argument", readable_or_null (event_argument items event)) ∷ []

unfoldable pub event_object : Items → StackEvent → Data
event_object items event = object (members_of (event_members items event))

abbrev pub events_array : Items → List StackEvent → Data
events_array items events = array (items_of (map (event_object items) events))

-- THE LINE of a rule
abbrev pub rule_members : NeedsValue → SuggestionText → List (List ℕ × Data)
rule_members value rule =
    kind (codes "rule") ∷ (codes "rule", rule_string value rule) ∷ (codes "verb", string (verb_name rule))
    ∷ (codes "asked", boolean (is_asked rule)) ∷ (codes "events", events_array value.items (events_in rule)) ∷ []

unfoldable pub rule_json : NeedsValue → SuggestionText → List ℕ
rule_json value rule = line (rule_members value rule)

-- THE LAST LINE: whether some answers let somebody in, and the number of rules
abbrev pub total_members : Bool → ℕ → List (List ℕ × Data)
total_members way_in rules = kind (codes "total") ∷ (codes "way_in", boolean way_in) ∷ (codes "rules", number (unsigned rules)) ∷ []

-- a line for each rule, and the last line
abbrev pub rules_json : NeedsValue → Option (List SuggestionText) → List ℕ
rules_json value None = line (total_members false 0)
rules_json value (Some rules) = flat_map (rule_json value) rules ++ line (total_members true (length rules))

-- THE JSON of `needs`
abbrev pub needs_json : NeedsValue → List ℕ
needs_json value = line (stack_members value.service value.kind (module_count value.items)) ++ rules_json value value.rules
