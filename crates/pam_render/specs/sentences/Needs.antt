-- The rules that hold of a stack, in the words of a policy.
use Rattle.std.specs.Prelude.{ℕ, List, [], ◌∷◌, ◌++◌, codes, Option, None, Some}
use Rattle.std.specs.List.{flat_map}
use Rattle.pam_conf.specs.Stack.{Items}
use Rattle.pam_policy.specs.declared.needs.event.StackEvent.{StackEvent}
use Rattle.pam_policy.specs.needs.Events.{event_argument, event_name}
use Rattle.pam_policy.specs.needs.Suggestions.{SuggestionText, AlwaysAsks, Needs, NeedsAsked, Obeys}
use Rattle.pam_report.specs.Names.{kind_name}
use Rattle.pam_report.specs.Reply.{NeedsValue}
use Rattle.pam_render.specs.sentences.Phrases.{Phrase, Name, Said}

-- AN EVENT after these words: `NAME`, or `NAME[ARGUMENT]`
abbrev pub argument_phrases : Option (List ℕ) → List Phrase
argument_phrases None = []
argument_phrases (Some argument) = Said (codes "[") ∷ Name argument ∷ Said (codes "]") ∷ []

abbrev pub event_phrases : List ℕ → Items → StackEvent → List Phrase
event_phrases before items event =
    (Said before ∷ Name (event_name items event) ∷ []) ++ argument_phrases (event_argument items event)

-- more events of a list
abbrev pub more_phrases : Items → List StackEvent → List Phrase
more_phrases items events = flat_map (event_phrases (codes " or ") items) events

-- `E or F ..` after these words
abbrev pub events_phrases : List ℕ → Items → List StackEvent → List Phrase
events_phrases before items [] = []
events_phrases before items (event ∷ events) = event_phrases before items event ++ more_phrases items events

-- A SENTENCE: `needs E or F ..`, `obeys E`, `needs E=any`, or `always asks E`. Its words before the events,
abbrev pub words_before : SuggestionText → List ℕ
words_before (Needs events) = codes " needs "
words_before (Obeys event) = codes " obeys "
words_before (NeedsAsked event) = codes " needs "
words_before (AlwaysAsks event) = codes " always asks "

-- the events,
abbrev pub events_in : SuggestionText → List StackEvent
events_in (Needs events) = events
events_in (Obeys event) = event ∷ []
events_in (NeedsAsked event) = event ∷ []
events_in (AlwaysAsks event) = event ∷ []

-- and its end
abbrev pub end_words : SuggestionText → List ℕ
end_words (NeedsAsked event) = codes "=any"
end_words rule = []

-- THE RULE: `SERVICE KIND SENTENCE`, with the service as the words give it
abbrev pub rule_phrases : NeedsValue → SuggestionText → List Phrase
rule_phrases value rule =
    (Name value.service ∷ Said (codes " ") ∷ Said (kind_name value.kind) ∷ [])
    ++ events_phrases (words_before rule) value.items (events_in rule) ++ (Said (end_words rule) ∷ [])
