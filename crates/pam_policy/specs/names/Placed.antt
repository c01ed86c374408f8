-- The events of a rule, in the order of its words.
use Rattle.std.specs.Prelude.{ℕ, Bool, true, false, List, [], ◌++◌, map, Option, Some, None}
use Rattle.pam_policy.specs.declared.names.placed.PlacedEvent.{PlacedEvent}
use Rattle.pam_policy.specs.text.Events.{EventText, event_view, names_module}
use Rattle.pam_policy.specs.text.Lists.{EventsText, events_in}
use Rattle.pam_policy.specs.text.Sentences.{SentenceText, Never, Can, Before}

-- AN EVENT in its sentence, which says whether only modules of the system count for it
pub record PlacedText : Type 0 where
  pub event : EventText
  pub is_strict : Bool

abbrev pub placed_view : PlacedEvent → PlacedText
placed_view placed = record { event = event_view placed.event.now; is_strict = placed.is_strict }

abbrev pub placed : Bool → EventText → PlacedText
placed is_strict event = record { event = event; is_strict = is_strict }

-- the events of a list, if there is one
abbrev pub placed_in : Bool → Option EventsText → List PlacedText
placed_in is_strict None = []
placed_in is_strict (Some events) = map (placed is_strict) (events_in events)

abbrev pub strictly : Option EventsText → List PlacedText
strictly = placed_in true

abbrev pub loosely : Option EventsText → List PlacedText
loosely = placed_in false

-- THE EVENTS of a sentence, in the order of its words: those that could make the rule hold are strict
unfoldable pub placed_events : SentenceText → List PlacedText
placed_events (Never c) = loosely c.with ++ strictly c.without
placed_events (Can c) = strictly c.with ++ loosely c.without
placed_events (Before first later) = strictly (Some first) ++ loosely (Some later)

-- whether an event speaks of the module at a path
abbrev pub speaks_of : PlacedText → List ℕ → Bool
speaks_of placed path = names_module placed.event.name placed.is_strict path
