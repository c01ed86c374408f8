-- What the definitions imply.
use Rattle.std.specs.Prelude.{◌≡◌, ◌++◌, List, [], ◌∷◌, None}
use Rattle.pam_conf.specs.Stack.{Items}
use Rattle.pam_text.specs.Members.{Member}
use Rattle.pam_policy.specs.declared.needs.event.StackEvent.{StackEvent}
use Rattle.pam_policy.specs.declared.needs.sentences.Verb.TheVariants as verbs
use Rattle.pam_policy.specs.host.Stacks.{KnownSite}
use Rattle.pam_policy.specs.needs.Choices.{AreNeeded, Holds, SaysOf, bare, needing_some, sentence_about}
use Rattle.pam_policy.specs.needs.Events.{events_of}
use Rattle.pam_policy.specs.needs.Fewest.{AreFewest}
use Rattle.pam_policy.specs.needs.Suggestions.{AreSuggestions, SuggestionText, Needs, Obeys, NeedsAsked, AlwaysAsks}
use Rattle.pam_policy.specs.text.Sentences.{SentenceText}

-- THE FEWEST

-- the fewest are needed together, if all of them are
abbrev pub FewestAreNeeded : Type 0
FewestAreNeeded =
    (known : KnownSite) (before some kept left : List StackEvent) → AreFewest (AreNeeded known) before some kept left →
    AreNeeded known (before ++ some) → AreNeeded known (before ++ kept)

-- none of them can be left out
abbrev pub NoneCanBeLeftOut : Type 0
NoneCanBeLeftOut =
    (known : KnownSite) (before some kept left front back : List StackEvent) (event : StackEvent) →
    AreFewest (AreNeeded known) before some kept left → kept ≡ front ++ event ∷ back → AreNeeded known (before ++ (front ++ back)) → ⊥

-- and there is one way to leave events out
abbrev pub OneFewest : Type 0
OneFewest =
    (known : KnownSite) (before some kept left other others : List StackEvent) → AreFewest (AreNeeded known) before some kept left →
    AreFewest (AreNeeded known) before some other others → (kept ≡ other) × (left ≡ others)

-- THE RULES

-- the sentence of a rule
abbrev pub rule_sentence : Items → SuggestionText → SentenceText
rule_sentence items (Needs events) = needing_some items events
rule_sentence items (Obeys event) = sentence_about items verbs.Obeys event
rule_sentence items (NeedsAsked event) = sentence_about items verbs.NeedsAsked event
rule_sentence items (AlwaysAsks event) = sentence_about items verbs.AlwaysAsks event

-- each rule holds
abbrev pub EachRuleHolds : Type 0
EachRuleHolds =
    (known : KnownSite) (rules : List SuggestionText) (rule : SuggestionText) → AreSuggestions known rules → Member rule rules →
    Holds known (rule_sentence known.site.items rule)

-- `needs NAME` is among the rules if it holds
abbrev pub EachNameIsThere : Type 0
EachNameIsThere =
    (known : KnownSite) (rules : List SuggestionText) (event : StackEvent) → AreSuggestions known rules →
    Member event (events_of known.site.items) → event.argument ≡ None → SaysOf known verbs.Needs event → Member (Needs (event ∷ [])) rules

-- where a name with an argument is needed, the name alone is, so no rule says so of an argument
abbrev pub ArgumentsSayNoMore : Type 0
ArgumentsSayNoMore = (known : KnownSite) (event : StackEvent) → SaysOf known verbs.Needs event → SaysOf known verbs.Needs (bare event)
