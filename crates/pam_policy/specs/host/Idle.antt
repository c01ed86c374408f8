-- P5: rules that say nothing of the stacks of a host.
use Rattle.std.specs.Prelude.{◌≢◌, ◌&&◌, ◌||◌, Bool, true, false, IsTrue, is_some, List, [], Option, Some, None}
use Rattle.pam_text.specs.Members.{Member}
use Rattle.pam_policy.specs.declared.host.idle.Idle.{Idle}
use Rattle.pam_policy.specs.declared.host.idle.Idle.TheVariants.{CannotHappen, CannotEnd}
use Rattle.pam_policy.specs.declared.text.ending.Ending.{Ending}
use Rattle.pam_policy.specs.declared.text.ending.Ending.TheVariants.{Ends}
use Rattle.pam_policy.specs.host.Stacks.{KnownSite}
use Rattle.pam_policy.specs.rules.Idle.{CanEnd, CanHappen}
use Rattle.pam_policy.specs.text.Sentences.{SentenceText, Never, Can, Before}

-- an ending that is not every ending
abbrev pub is_certain : Ending → Bool
is_certain Ends = false
is_certain ending = true

-- A RULE IS ABOUT EVENTS that happen: it has `with`, and another ending than `ends` or a `without`; or it has `before`. A rule that only says
-- that something is never asked wants the absence
abbrev pub is_about_events : SentenceText → Bool
is_about_events (Never c) = is_some c.with && (is_certain c.ending || is_some c.without)
is_about_events (Can c) = false
is_about_events (Before first later) = true

-- A RULE IS ABOUT AN ENDING: it has another one than `ends`, and a `with` or a `without`. A rule that only says that a stack never ends so
-- wants the absence
abbrev pub is_about_ending : SentenceText → Bool
is_about_ending (Never c) = is_certain c.ending && (is_some c.with || is_some c.without)
is_about_ending (Can c) = false
is_about_ending (Before first later) = false

abbrev pub is_about : Idle → SentenceText → Bool
is_about CannotHappen sentence = is_about_events sentence
is_about CannotEnd sentence = is_about_ending sentence

-- what such a rule is about can be at a class: its events can happen there, or the stack can end so
abbrev pub CanBe : Idle → KnownSite → SentenceText → Type 0
CanBe CannotHappen known sentence = CanHappen known.allows known.site sentence
CanBe CannotEnd known sentence = CanEnd known.allows known.site sentence

-- A RULE SAYS NOTHING of some classes: what it is about can be at none of them
pub record IsIdle (sites : List (Option KnownSite)) (sentence : SentenceText) (way : Idle) : Type 0 where
  pub about : IsTrue (is_about way sentence)
  pub nowhere : (known : KnownSite) → Member (Some known) sites → CanBe way known sentence → ⊥

-- there are classes, and each of them is known
pub record AreKnown (sites : List (Option KnownSite)) : Type 0 where
  pub some : sites ≢ []
  pub each : Member None sites → ⊥

-- WHAT IS SAID of a rule, where each class is known: that its events cannot happen, else that no stack can end so, else nothing
abbrev pub SaysIdle : List (Option KnownSite) → SentenceText → Option Idle → Type 0
SaysIdle sites sentence (Some CannotHappen) = AreKnown sites × IsIdle sites sentence CannotHappen
SaysIdle sites sentence (Some CannotEnd) = AreKnown sites × IsIdle sites sentence CannotEnd × (IsIdle sites sentence CannotHappen → ⊥)
SaysIdle sites sentence None = AreKnown sites → (way : Idle) → IsIdle sites sentence way → ⊥
