-- The rules that hold of a stack in words, part by part.
use Rattle.std.proofs.Common.{◌≡◌, ◌∙◌, ℕ, List, [], ◌∷◌, ◌++◌, Option, ap, codes, refl, sym}
use Rattle.std.proofs.lemmas.Grind.{flat_map-append}
use Rattle.std.specs.List.{flat_map}
use Rattle.pam_conf.specs.Stack.{Items}
use Rattle.pam_policy.specs.declared.needs.event.StackEvent.{StackEvent}
use Rattle.pam_policy.specs.needs.Events.{event_argument, event_name}
use Rattle.pam_policy.specs.needs.Suggestions.{SuggestionText}
use Rattle.pam_report.specs.Names.{kind_name}
use Rattle.pam_report.specs.Reply.{NeedsValue}
use Rattle.pam_render.specs.sentences.Phrases.{Phrase, Name, Said}
use Rattle.pam_render.specs.sentences.Needs.{argument_phrases, end_words, event_phrases, events_in, events_phrases, more_phrases, rule_phrases, words_before}

module _ (text : Phrase → List ℕ) where
  -- an event: its name, and its argument
  pub event-is : (before : List ℕ) (items : Items) (event : StackEvent) (name : List ℕ) (argument : Option (List ℕ)) → name ≡ event_name items event
      → argument ≡ event_argument items event
      → flat_map text (Said before ∷ Name name ∷ []) ++ flat_map text (argument_phrases argument) ≡ flat_map text (event_phrases before items event)
  event-is before items event name argument e f =
      rw (e, f)
      (sym (flat_map-append text (Said before ∷ Name (event_name items event) ∷ []) (argument_phrases (event_argument items event))))

  -- each of more events
  pub more-are : (items : Items) (events : List StackEvent)
      → flat_map (λ event. flat_map text (event_phrases (codes " or ") items event)) events ≡ flat_map text (more_phrases items events)
  more-are items [] = refl
  more-are items (event ∷ events) =
      ap (λ l. flat_map text (event_phrases (codes " or ") items event) ++ l) (more-are items events)
      ∙ sym (flat_map-append text (event_phrases (codes " or ") items event) (more_phrases items events))

  -- the first event, and the others
  pub events-are : (before : List ℕ) (items : Items) (all : List StackEvent) (first : StackEvent) (others : List StackEvent) → all ≡ first ∷ others
      → flat_map text (event_phrases before items first) ++ flat_map text (more_phrases items others) ≡ flat_map text (events_phrases before items all)
  events-are before items all first others e =
      sym (flat_map-append text (event_phrases before items first) (more_phrases items others))
      ∙ ap (λ (events : List StackEvent). flat_map text (events_phrases before items events)) (sym e)

  -- the service and the kind, the events and the end
  pub rule-is : (value : NeedsValue) (rule : SuggestionText) (service kind before ending : List ℕ) (events : List StackEvent) → service ≡ value.service
      → kind ≡ kind_name value.kind → before ≡ words_before rule → events ≡ events_in rule → ending ≡ end_words rule
      → (flat_map text (Name service ∷ Said (codes " ") ∷ Said kind ∷ []) ++ flat_map text (events_phrases before value.items events))
      ++ flat_map text (Said ending ∷ []) ≡ flat_map text (rule_phrases value rule)
  rule-is value rule service kind before ending events e f g h i =
      let head = Name value.service ∷ Said (codes " ") ∷ Said (kind_name value.kind) ∷ [] in
      let body = events_phrases (words_before rule) value.items (events_in rule) in
      let end = Said (end_words rule) ∷ [] in
      rw (e, f, g, h, i)
      (ap (λ (l : List ℕ). l ++ flat_map text end) (sym (flat_map-append text head body)) ∙ sym (flat_map-append text (head ++ body) end))
