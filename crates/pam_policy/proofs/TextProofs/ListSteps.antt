-- The events of a list, one after another.
use Rattle.std.proofs.Common.{◌≡◌, ◌∙◌, ◌+◌, ◌<◌, ◌++◌, ℕ, Bool, true, false, List, [], ◌∷◌, Option, Result, Ok, Err}
use Rattle.std.proofs.Common.{ap, append-nil, append_assoc, arith, length, map, refl, sym, if◌then◌else◌}
use Rattle.std.proofs.lemmas.Bool.{false≢true}
use Rattle.std.proofs.lemmas.List.{length-append}
use Rattle.pam_policy.specs.declared.text.codes.Codes.{Codes}
use Rattle.pam_policy.specs.declared.text.error.PolicyFault.{PolicyFault}
use Rattle.pam_policy.specs.declared.text.error.PolicyFault.TheVariants.{MissingField}
use Rattle.pam_policy.specs.declared.text.event.Event.{Event}
use Rattle.pam_policy.specs.declared.text.place.Joint.{Joint}
use Rattle.pam_policy.specs.declared.text.place.Place.{Place}
use Rattle.pam_policy.specs.text.Error.{◌>>=◌}
use Rattle.pam_policy.specs.text.Events.{EventText, event_of, event_view}
use Rattle.pam_policy.specs.text.Lists.{EventsText, Read, bare_codes, events_of, goes_on, joined, joint_before, joint_of, roomy, with_joint}
use Rattle.pam_policy.specs.text.inner.Lists.{after_events, next_event, one_more}

module _ (place : Place) (joint : Joint) where
  -- where the list goes on, or is at its end
  abbrev continued : Bool × Read → Result Read PolicyFault
  continued s = if s.0 then after_events s.1.0 (joined place joint (length s.1.0) s.1.1) else Ok s.1

  nothing_more : (events : List EventText) (words : List (List ℕ)) → after_events events (Ok ([], words)) ≡ Ok (events, words)
  nothing_more events words = ap (λ (es : List EventText). Ok (es, words)) (append-nil events)

  one_read : (events : List EventText) (event : EventText) (r : Result Read PolicyFault)
      → after_events events (r >>= λ others. Ok (event ∷ others.0, others.1)) ≡ after_events (events ++ event ∷ []) r
  one_read events event (Ok others) = ap (λ (es : List EventText). Ok (es, others.1)) (sym (append_assoc events (event ∷ []) others.0))
  one_read events event (Err fault) = refl

  with_room : (events : List EventText) (words : List (List ℕ)) (event : EventText) (r : Result (Unit {0}) PolicyFault)
      → after_events events (r >>= λ _. joined place joint (length events + 1) words >>= λ others. Ok (event ∷ others.0, others.1))
      ≡ ((r >>= λ _. Ok (true, (events ++ event ∷ [], words))) >>= continued)
  with_room events words event (Err fault) = refl
  with_room events words event (Ok room) =
      one_read events event (joined place joint (length events + 1) words)
      ∙ ap (λ (n : ℕ). after_events (events ++ event ∷ []) (joined place joint n words)) (sym (length-append events (event ∷ [])))

  with_event : (events : List EventText) (words : List (List ℕ)) (e : Result EventText PolicyFault)
      → after_events events (e >>= λ event. roomy place joint (length events) >>= λ _. joined place joint (length events + 1) words >>= λ others.
      Ok (event ∷ others.0, others.1))
      ≡ ((e >>= λ event. roomy place joint (length events) >>= λ _. Ok (true, (events ++ event ∷ [], words))) >>= continued)
  with_event events words (Err fault) = refl
  with_event events words (Ok event) = with_room events words event (roomy place joint (length events))

  at_last_word : (events : List EventText) (word : List ℕ) (g : Result Bool PolicyFault)
      → after_events events (g >>= λ more. if more then Err MissingField else Ok ([], word ∷ []))
      ≡ ((g >>= λ more. if more then one_more place joint events (word ∷ []) else Ok (false, (events, word ∷ []))) >>= continued)
  at_last_word events word (Err fault) = refl
  at_last_word events word (Ok true) = refl
  at_last_word events word (Ok false) = nothing_more events (word ∷ [])

  at_words : (events : List EventText) (word next : List ℕ) (words : List (List ℕ)) (g : Result Bool PolicyFault)
      → after_events events (g >>= λ more. if more then
      (event_of (bare_codes place) next >>= λ event. roomy place joint (length events) >>= λ _.
      joined place joint (length events + 1) words >>= λ others. Ok (event ∷ others.0, others.1))
      else Ok ([], word ∷ next ∷ words))
      ≡ ((g >>= λ more. if more then one_more place joint events (word ∷ next ∷ words) else Ok (false, (events, word ∷ next ∷ words))) >>= continued)
  at_words events word next words (Err fault) = refl
  at_words events word next words (Ok true) = with_event events words (event_of (bare_codes place) next)
  at_words events word next words (Ok false) = nothing_more events (word ∷ next ∷ words)

  -- events, and those that are still to be read
  abbrev pub all_from : List EventText → List (List ℕ) → Result Read PolicyFault
  all_from events words = after_events events (joined place joint (length events) words)

  step : (events : List EventText) (words : List (List ℕ)) → all_from events words ≡ (next_event place joint events words >>= continued)
  unfolding joined next_event
  step events [] = nothing_more events []
  step events (word ∷ []) = at_last_word events word (goes_on place joint (joint_of word))
  step events (word ∷ next ∷ words) = at_words events word next words (goes_on place joint (joint_of word))

  module _ (events new : List EventText) (words rest : List (List ℕ)) where
    pub goes_further : next_event place joint events words ≡ Ok (true, (new, rest)) → all_from new rest ≡ all_from events words
    goes_further e = sym (step events words ∙ ap (λ (r : Result (Bool × Read) PolicyFault). r >>= continued) e)

    pub ends_here : next_event place joint events words ≡ Ok (false, (new, rest)) → all_from events words ≡ Ok (new, rest)
    ends_here e = step events words ∙ ap (λ (r : Result (Bool × Read) PolicyFault). r >>= continued) e

  pub fails_here : (events : List EventText) (words : List (List ℕ)) (fault : PolicyFault) → next_event place joint events words ≡ Err fault
      → all_from events words ≡ Err fault
  fails_here events words fault e = step events words ∙ ap (λ (r : Result (Bool × Read) PolicyFault). r >>= continued) e

  -- ---- each event takes words

  abbrev more_read : List EventText → List (List ℕ) → Result (Bool × Read) PolicyFault
  more_read events words = Ok (true, (events, words))

  abbrev none_read : List EventText → List (List ℕ) → Result (Bool × Read) PolicyFault
  none_read events words = Ok (false, (events, words))

  abbrev says_more : Result (Bool × Read) PolicyFault → Bool
  says_more (Ok s) = s.0
  says_more (Err fault) = false

  abbrev rest_of : Result (Bool × Read) PolicyFault → List (List ℕ)
  rest_of (Ok s) = s.1.1
  rest_of (Err fault) = []

  module _ (events new : List EventText) (word next : List ℕ) (words rest : List (List ℕ)) where
    shorter_with_room : (event : EventText) (r : Result (Unit {0}) PolicyFault)
        → (r >>= λ room. more_read (events ++ event ∷ []) words) ≡ more_read new rest → length rest < length (word ∷ next ∷ words)
    shorter_with_room event (Err fault) h = absurd (false≢true (ap says_more h))
    shorter_with_room event (Ok room) h =
        let lengths : length words ≡ length rest = ap (λ (r : Result (Bool × Read) PolicyFault). length (rest_of r)) h in
        omega arith

    shorter_with_event : (e : Result EventText PolicyFault)
        → (e >>= λ event. roomy place joint (length events) >>= λ room. more_read (events ++ event ∷ []) words) ≡ more_read new rest
        → length rest < length (word ∷ next ∷ words)
    shorter_with_event (Err fault) h = absurd (false≢true (ap says_more h))
    shorter_with_event (Ok event) h = shorter_with_room event (roomy place joint (length events)) h

    shorter_if_more : (g : Result Bool PolicyFault)
        → (g >>= λ more. if more then one_more place joint events (word ∷ next ∷ words) else none_read events (word ∷ next ∷ words)) ≡ more_read new rest
        → length rest < length (word ∷ next ∷ words)
    shorter_if_more (Err fault) h = absurd (false≢true (ap says_more h))
    shorter_if_more (Ok true) h = shorter_with_event (event_of (bare_codes place) next) h
    shorter_if_more (Ok false) h = absurd (false≢true (ap says_more h))

  none_at_last_word : (events new : List EventText) (word : List ℕ) (rest : List (List ℕ)) (g : Result Bool PolicyFault)
      → (g >>= λ more. if more then one_more place joint events (word ∷ []) else none_read events (word ∷ [])) ≡ more_read new rest → ⊥
  none_at_last_word events new word rest (Err fault) h = false≢true (ap says_more h)
  none_at_last_word events new word rest (Ok true) h = false≢true (ap says_more h)
  none_at_last_word events new word rest (Ok false) h = false≢true (ap says_more h)

  pub shorter : (events new : List EventText) (words rest : List (List ℕ)) → next_event place joint events words ≡ Ok (true, (new, rest))
      → length rest < length words
  unfolding next_event
  shorter events new [] rest h = absurd (false≢true (ap says_more h))
  shorter events new (word ∷ []) rest h = absurd (none_at_last_word events new word rest (goes_on place joint (joint_of word)) h)
  shorter events new (word ∷ next ∷ words) rest h = shorter_if_more events new word next words rest (goes_on place joint (joint_of word)) h

-- ---- the whole list

abbrev listed : Joint → Result Read PolicyFault → Result (EventsText × List (List ℕ)) PolicyFault
listed joint (Ok read) = Ok (with_joint joint read.0, read.1)
listed joint (Err fault) = Err fault

whole : (joint : Joint) (first : EventText) (r : Result Read PolicyFault)
    → (r >>= λ others. Ok (with_joint joint (first ∷ others.0), others.1)) ≡ listed joint (after_events (first ∷ []) r)
whole joint first (Ok others) = refl
whole joint first (Err fault) = refl

list_is : (place : Place) (word : List ℕ) (words : List (List ℕ)) (first : EventText) → event_of (bare_codes place) word ≡ Ok first
    → events_of place (word ∷ words) ≡ listed (joint_before words) (all_from place (joint_before words) (first ∷ []) words)
unfolding events_of
list_is place word words first read =
    ap (λ (e : Result EventText PolicyFault). e >>= λ event. joined place (joint_before words) 1 words >>= λ others.
    Ok (with_joint (joint_before words) (event ∷ others.0), others.1)) read
    ∙ whole (joint_before words) first (joined place (joint_before words) 1 words)

-- the first event alone
pub one_event : (new none : List Event) (first : Event) → new ≡ none ++ first ∷ [] → none ≡ [] → map event_view new ≡ event_view first ∷ []
one_event new none first put empty = ap (map event_view) (put ∙ ap (λ (es : List Event). es ++ first ∷ []) empty)

-- the first event has a fault
pub first_fails : (place : Place) (old words : List (List ℕ)) (word : List ℕ) (bare : Option Codes) (fault : PolicyFault) → old ≡ word ∷ words
    → bare ≡ bare_codes place → event_of bare word ≡ Err fault → events_of place old ≡ Err fault
unfolding events_of
first_fails place old words word bare fault next bare_is e =
    ap (events_of place) next
    ∙ ap (λ (e : Result EventText PolicyFault). e >>= λ event. joined place (joint_before words) 1 words >>= λ others.
    Ok (with_joint (joint_before words) (event ∷ others.0), others.1)) (ap (λ (b : Option Codes). event_of b word) (sym bare_is) ∙ e)

module _ (place : Place) (joint : Joint) (old words : List (List ℕ)) (word : List ℕ) (bare : Option Codes) (first : EventText) (initial : List EventText)
    (next : old ≡ word ∷ words) (bare_is : bare ≡ bare_codes place) (read : event_of bare word ≡ Ok first) (joint_is : joint ≡ joint_before words)
    (begins : initial ≡ first ∷ []) where
  all_of_list : events_of place old ≡ listed joint (all_from place joint initial words)
  all_of_list =
      ap (events_of place) next ∙ list_is place word words first (ap (λ (b : Option Codes). event_of b word) (sym bare_is) ∙ read)
      ∙ ap (λ (j : Joint). listed j (all_from place j (first ∷ []) words)) (sym joint_is)
      ∙ ap (λ (es : List EventText). listed joint (all_from place joint es words)) (sym begins)

  pub list_read : (events : List EventText) (rest : List (List ℕ)) → all_from place joint initial words ≡ Ok (events, rest)
      → events_of place old ≡ Ok (with_joint joint events, rest)
  list_read events rest e = all_of_list ∙ ap (listed joint) e

  pub list_fails : (fault : PolicyFault) → all_from place joint initial words ≡ Err fault → events_of place old ≡ Err fault
  list_fails fault e = all_of_list ∙ ap (listed joint) e
