-- What holds of the events of a stack: the sentences of a policy about each, and which events are chosen for which sentence.
use Rattle.std.specs.Prelude.{◌≡◌, ℕ, ◌<◌, ◌≤◌, ◌&&◌, ◌||◌, Bool, true, false, not, is_some, IsTrue, List, [], ◌∷◌, map, None}
use Rattle.std.specs.List.{list_any}
use Rattle.std.specs.Option.{option_map_or}
use Rattle.pam_codes.specs.Code.{all_codes}
use Rattle.pam_codes.specs.declared.code.TheConstants.{CODES}
use Rattle.pam_codes.specs.Set.{is_in}
use Rattle.pam_conf.specs.declared.rule.Kind.{Kind}
use Rattle.pam_conf.specs.declared.rule.Kind.TheVariants.{Auth}
use Rattle.pam_conf.specs.Stack.{Items, module_at, module_count}
use Rattle.pam_facts.specs.declared.row.Class.{Class}
use Rattle.pam_facts.specs.declared.row.Class.TheVariants.{Checks, Ignores}
use Rattle.pam_facts.specs.Fitting.{fact_of}
use Rattle.pam_policy.specs.declared.needs.choices.Choice.{Choice}
use Rattle.pam_policy.specs.declared.needs.choices.Choice.TheVariants as choices
use Rattle.pam_policy.specs.declared.needs.event.StackEvent.{StackEvent}
use Rattle.pam_policy.specs.declared.needs.sentences.Verb.{Verb}
use Rattle.pam_policy.specs.declared.needs.sentences.Verb.TheVariants.{Needs, Obeys, NeedsAsked, AlwaysAsks}
use Rattle.pam_policy.specs.declared.text.codes.Codes.TheVariants.{Given, LetsGoOn}
use Rattle.pam_policy.specs.declared.text.ending.Ending.TheVariants.{Succeeds}
use Rattle.pam_policy.specs.host.Stacks.{KnownSite}
use Rattle.pam_policy.specs.needs.Events.{event_name, event_text, is_said, module_numbers}
use Rattle.pam_policy.specs.rules.Happening.{event_answers}
use Rattle.pam_policy.specs.rules.Idle.{CanHappen}
use Rattle.pam_policy.specs.rules.Judging.{IsUnsettled}
use Rattle.pam_policy.specs.rules.Site.{SiteText}
use Rattle.pam_policy.specs.text.Codes.{all_but, failures}
use Rattle.pam_policy.specs.text.Events.{EventText}
use Rattle.pam_policy.specs.text.Lists.{OneOf}
use Rattle.pam_policy.specs.text.Sentences.{SentenceText, Never, asked, needing, obeying}

-- THE SENTENCE of a verb about an event: `needs E`, `obeys E`, `needs E=any` and `always asks E`
unfoldable pub sentence_about : Items → Verb → StackEvent → SentenceText
sentence_about items Needs event = needing (OneOf (event_text items LetsGoOn event ∷ []))
sentence_about items Obeys event = obeying (OneOf (event_text items (Given failures) event ∷ []))
sentence_about items NeedsAsked event = needing (OneOf (event_text items (Given all_codes) event ∷ []))
sentence_about items AlwaysAsks event = asked (OneOf (event_text items (Given all_codes) event ∷ [])) None

-- `needs E or F ..`
abbrev pub needing_some : Items → List StackEvent → SentenceText
needing_some items some = needing (OneOf (map (event_text items LetsGoOn) some))

-- A SENTENCE HOLDS: nothing that is allowed breaks it
abbrev pub Holds : KnownSite → SentenceText → Type 0
Holds known sentence = IsUnsettled known.allows known.site sentence

abbrev pub SaysOf : KnownSite → Verb → StackEvent → Type 0
SaysOf known verb event = Holds known (sentence_about known.site.items verb event)

-- SOME EVENTS ARE NEEDED TOGETHER: there is one, and `needs E or F ..` holds
unfoldable pub AreNeeded : KnownSite → List StackEvent → Type 0
AreNeeded known [] = ⊥
AreNeeded known (event ∷ events) = Holds known (needing_some known.site.items (event ∷ events))

-- THERE IS NO WAY IN: `never succeeds` holds
abbrev pub NoWayIn : KnownSite → Type 0
NoWayIn known = Holds known (Never record { ending = Succeeds; with = None; without = None })

-- in some run a module of an event is asked and fails: `obeys E` says something of the stack
abbrev pub CanFail : KnownSite → StackEvent → Type 0
CanFail known event = CanHappen known.allows known.site (sentence_about known.site.items Obeys event)

-- a module of which an event speaks may give one of its answers, whether it is asked or not
pub record MayAnswer (known : KnownSite) (event : EventText) : Type 0 where
  pub number : ℕ
  pub from : 1 ≤ number
  pub to : number ≤ module_count known.site.items
  pub code : ℕ
  pub low : code < CODES
  pub allowed : known.allows number code ≡ true
  pub answers : IsTrue (is_in code (event_answers known.site false event number))

-- some module of an event may do something else than fail
abbrev pub MayNotFail : KnownSite → StackEvent → Type 0
MayNotFail known event = MayAnswer known (event_text known.site.items (Given (all_but failures)) event)

-- WHAT IS SAID of an event by a verb. `obeys E` is said only of what can fail, and can do something else
unfoldable pub IsSaid : KnownSite → Verb → StackEvent → Type 0
IsSaid known Obeys event = SaysOf known Obeys event × CanFail known event × MayNotFail known event
IsSaid known verb event = SaysOf known verb event

abbrev pub bare : StackEvent → StackEvent
bare event = record { «module» = event.«module»; argument = None }

-- the same; of a name with an argument, only where it is not said of the name alone
abbrev pub IsSaidFirst : KnownSite → Verb → StackEvent → Type 0
IsSaidFirst known verb event = IsSaid known verb event × (IsTrue (is_some event.argument) → IsSaid known verb (bare event) → ⊥)

-- WHICH NAMES SAY WHO LOGS IN: in `auth` those of modules that check, or of which nothing is known; in other kinds all names
abbrev pub is_class_vouching : Class → Bool
is_class_vouching Checks = true
is_class_vouching Ignores = true
is_class_vouching class = false

abbrev pub is_auth : Kind → Bool
is_auth Auth = true
is_auth kind = false

unfoldable pub is_vouching_at : SiteText → List ℕ → ℕ → Bool
is_vouching_at site name number =
    option_map_or (λ m. is_said name m.path && is_class_vouching (fact_of site.rows m.path m.arguments).class) (module_at number site.items) false

unfoldable pub is_vouching : SiteText → StackEvent → Bool
is_vouching site event =
    not (is_auth site.kind) || list_any (is_vouching_at site (event_name site.items event)) (module_numbers site.items)

-- a name that is not needed by itself
abbrev pub IsLeft : KnownSite → StackEvent → Type 0
IsLeft known event = (is_some event.argument ≡ false) × (SaysOf known Needs event → ⊥)

-- WHICH EVENTS ARE CHOSEN
unfoldable pub IsChosen : KnownSite → Choice → StackEvent → Type 0
IsChosen known choices.Needed event = IsSaidFirst known Needs event
IsChosen known choices.Vouching event = IsLeft known event × (is_vouching known.site event ≡ true)
IsChosen known choices.Guarding event =
    IsLeft known event × (is_vouching known.site event ≡ false) × SaysOf known Obeys event × CanFail known event
IsChosen known choices.Obeyed event = IsSaidFirst known Obeys event
IsChosen known choices.AskedOnWayIn event =
    IsSaidFirst known NeedsAsked event × (IsSaidFirst known Needs event → ⊥) × (IsSaidFirst known AlwaysAsks event → ⊥)
IsChosen known choices.AlwaysAsked event = IsSaidFirst known AlwaysAsks event
