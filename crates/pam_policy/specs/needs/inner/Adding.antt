-- For private contracts and proofs alone: rules that are added to others.
use Rattle.std.specs.Prelude.{◌≡◌, ◌++◌, Bool, true, false, List, MatchOption, Option, map}
use Rattle.pam_policy.specs.declared.needs.choices.Choice.{Choice}
use Rattle.pam_policy.specs.declared.needs.event.StackEvent.{StackEvent}
use Rattle.pam_policy.specs.declared.rules.verdict.Verdict.{Verdict}
use Rattle.pam_policy.specs.declared.rules.verdict.Verdict.TheVariants as verdicts
use Rattle.pam_policy.specs.host.Stacks.{KnownSite}
use Rattle.pam_policy.specs.needs.Choices.{AreNeeded, IsChosen}
use Rattle.pam_policy.specs.needs.Fewest.{AreFound, AreGroups, AreThose}
use Rattle.pam_policy.specs.needs.Suggestions.{IsGuard, Needs, SuggestionText, rule_about}
use Rattle.pam_policy.specs.text.Sentences.{SentenceText, Never}

-- a rule about each of some events that is chosen
pub record AddsChosen (known : KnownSite) (choice : Choice) (events : List StackEvent) (old new : List SuggestionText) : Type 0 where
  pub chosen : List StackEvent
  pub are_chosen : AreThose (IsChosen known choice) events chosen
  pub adds : new ≡ old ++ map (rule_about choice) chosen

-- a rule for each group of events
pub record AddsGroups (known : KnownSite) (vouching : List StackEvent) (old new : List SuggestionText) : Type 0 where
  pub groups : List (List StackEvent)
  pub are_groups : AreGroups (AreNeeded known) vouching groups
  pub adds : new ≡ old ++ map Needs groups

-- a rule for each guard
pub record AddsGuards (known : KnownSite) (vouching guarding : List StackEvent) (old new : List SuggestionText) : Type 0 where
  pub guards : List (List StackEvent)
  pub are_guards : AreFound (IsGuard known vouching) guarding guards
  pub adds : new ≡ old ++ map Needs guards

-- the group of a guard, if an event is one
abbrev pub SaysGuard : KnownSite → List StackEvent → StackEvent → Option (List StackEvent) → Type 0
SaysGuard known vouching event found =
    MatchOption found ((group : List StackEvent) → IsGuard known vouching event group → ⊥) (IsGuard known vouching event)

-- a verdict says that no answers break a rule
abbrev pub is_unbroken : Verdict → Bool
is_unbroken verdicts.Holds = true
is_unbroken verdict = false

-- a sentence of what is never to be
abbrev pub IsNever : SentenceText → Type 0
IsNever (Never c) = Unit {0}
IsNever sentence = ⊥
