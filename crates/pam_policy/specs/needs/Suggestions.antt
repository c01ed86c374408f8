-- The rules that hold of a stack, in their order: `pamcheck needs`.
use Rattle.std.specs.Prelude.{◌≡◌, ◌++◌, List, [], ◌∷◌, map, nat_lt, if◌then◌else◌, Option, Some, None}
use Rattle.pam_policy.specs.declared.needs.choices.Choice.{Choice}
use Rattle.pam_policy.specs.declared.needs.choices.Choice.TheVariants as choices
use Rattle.pam_policy.specs.declared.needs.event.StackEvent.{StackEvent}
use Rattle.pam_policy.specs.declared.needs.suggestion.Suggestion.{Suggestion}
use Rattle.pam_policy.specs.declared.needs.suggestion.Suggestion.TheVariants as rules
use Rattle.pam_policy.specs.host.Stacks.{KnownSite}
use Rattle.pam_policy.specs.needs.Choices.{AreNeeded, IsChosen, NoWayIn}
use Rattle.pam_policy.specs.needs.Events.{events_of}
use Rattle.pam_policy.specs.needs.Fewest.{AreFewest, AreFound, AreGroups, AreThose}

-- A RULE WITHOUT ITS LAYOUT IN MEMORY: `needs E or F ..`, `obeys E`, `needs E=any` and `always asks E`
pub data SuggestionText : Type 0 where
  Needs : List StackEvent → SuggestionText
  Obeys : StackEvent → SuggestionText
  NeedsAsked : StackEvent → SuggestionText
  AlwaysAsks : StackEvent → SuggestionText

abbrev pub suggestion_view : Suggestion → SuggestionText
suggestion_view (rules.Needs events) = Needs events.items
suggestion_view (rules.Obeys event) = Obeys event
suggestion_view (rules.NeedsAsked event) = NeedsAsked event
suggestion_view (rules.AlwaysAsks event) = AlwaysAsks event

-- the rule about an event that is chosen
abbrev pub rule_about : Choice → StackEvent → SuggestionText
rule_about choices.Obeyed event = Obeys event
rule_about choices.AskedOnWayIn event = NeedsAsked event
rule_about choices.AlwaysAsked event = AlwaysAsks event
rule_about choice event = Needs (event ∷ [])

-- the events of a stack that are chosen
abbrev pub AreChosen : KnownSite → Choice → List StackEvent → Type 0
AreChosen known choice chosen = AreThose (IsChosen known choice) (events_of known.site.items) chosen

-- an event among others, in the order of their modules
unfoldable pub put_in : StackEvent → List StackEvent → List StackEvent
put_in event [] = event ∷ []
put_in event (other ∷ others) =
    if nat_lt event.«module» other.«module» then event ∷ other ∷ others else other ∷ put_in event others

-- A GUARD: a name that is needed beside those who say who logs in. Of them the fewest that are needed together with it, and
-- are not without it
pub record IsGuard (known : KnownSite) (vouching : List StackEvent) (event : StackEvent) (group : List StackEvent) : Type 0 where
  pub together : AreNeeded known (event ∷ vouching)
  pub fewest : List StackEvent
  pub left : List StackEvent
  pub are_fewest : AreFewest (AreNeeded known) (event ∷ []) vouching fewest left
  pub alone_not : AreNeeded known fewest → ⊥
  pub group_is : group ≡ put_in event fewest

-- THE RULES THAT HOLD OF A STACK, in their order
pub record AreSuggestions (known : KnownSite) (rules : List SuggestionText) : Type 0 where
  pub needed : List StackEvent
  pub are_needed : AreChosen known choices.Needed needed
  pub vouching : List StackEvent
  pub are_vouching : AreChosen known choices.Vouching vouching
  pub groups : List (List StackEvent)
  pub are_groups : AreGroups (AreNeeded known) vouching groups
  pub guarding : List StackEvent
  pub are_guarding : AreChosen known choices.Guarding guarding
  pub guards : List (List StackEvent)
  pub are_guards : AreFound (IsGuard known vouching) guarding guards
  pub obeyed : List StackEvent
  pub are_obeyed : AreChosen known choices.Obeyed obeyed
  pub on_way_in : List StackEvent
  pub are_on_way_in : AreChosen known choices.AskedOnWayIn on_way_in
  pub always_asked : List StackEvent
  pub are_always_asked : AreChosen known choices.AlwaysAsked always_asked
  pub in_order : rules
      ≡ map (rule_about choices.Needed) needed ++ map Needs groups ++ map Needs guards ++ map (rule_about choices.Obeyed) obeyed
      ++ map (rule_about choices.AskedOnWayIn) on_way_in ++ map (rule_about choices.AlwaysAsked) always_asked

-- WHAT IS SAID OF A STACK: that no answers let anybody in; or the rules
abbrev pub SaysRules : KnownSite → Option (List SuggestionText) → Type 0
SaysRules known None = NoWayIn known
SaysRules known (Some rules) = (NoWayIn known → ⊥) × AreSuggestions known rules
