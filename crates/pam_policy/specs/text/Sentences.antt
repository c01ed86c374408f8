-- Sentences: what a rule demands. Five verbs are read into three forms.
use Rattle.std.specs.Prelude.{ℕ, ◌||◌, Bool, true, false, not, List, [], ◌∷◌, codes, Option, Some, None, Result, Ok, Err, if◌then◌else◌}
use Rattle.std.specs.Option.{option_map}
use Rattle.std.specs.Str.{bytes_eq}
use Rattle.pam_codes.specs.Code.{all_codes, new_authtok_reqd, success}
use Rattle.pam_codes.specs.Set.{codes_where, is_in}
use Rattle.pam_conf.specs.declared.rule.Kind.{Kind}
use Rattle.pam_conf.specs.declared.rule.Kind.TheVariants.{Account}
use Rattle.pam_policy.specs.declared.text.ending.Ending.{Ending}
use Rattle.pam_policy.specs.declared.text.ending.Ending.TheVariants.{Succeeds, Fails, Ends, Decides}
use Rattle.pam_policy.specs.declared.text.error.PolicyFault.{PolicyFault}
use Rattle.pam_policy.specs.declared.text.error.PolicyFault.TheVariants.{BadVerb, ExtraWord, MissingField}
use Rattle.pam_policy.specs.declared.text.place.Place.{Place}
use Rattle.pam_policy.specs.declared.text.place.Place.TheVariants.{Needs, Obeys, Asks, NeverOrCanAsk, With, Without}
use Rattle.pam_policy.specs.declared.text.sentence.Condition.{Condition}
use Rattle.pam_policy.specs.declared.text.sentence.Sentence.{Sentence}
use Rattle.pam_policy.specs.declared.text.sentence.Sentence.TheVariants as sentences
use Rattle.pam_policy.specs.text.Codes.{codes_in}
use Rattle.pam_policy.specs.text.Error.{◌>>=◌}
use Rattle.pam_policy.specs.text.Lists.{EventsText, events_of, events_view, one_of}

-- A SENTENCE WITHOUT ITS LAYOUT IN MEMORY

-- how a stack ends, with some events and without others
pub record ConditionText : Type 0 where
  pub ending : Ending
  pub with : Option EventsText
  pub without : Option EventsText

-- `never` and `can` a condition, and events that come before others
pub data SentenceText : Type 0 where
  Never : ConditionText → SentenceText
  Can : ConditionText → SentenceText
  Before : EventsText → EventsText → SentenceText

abbrev pub condition_view : Condition → ConditionText
condition_view c = record {
  ending = c.ending;
  with = option_map events_view c.with;
  without = option_map events_view c.without;
}

abbrev pub sentence_view : Sentence → SentenceText
sentence_view (sentences.Never condition) = Never (condition_view condition)
sentence_view (sentences.Can condition) = Can (condition_view condition)
sentence_view (sentences.Before first later) = Before (events_view first) (events_view later)

-- READING. A part of a sentence is read with the words after it

abbrev pub Read : Type 0 → Type 0
Read Part = Result (Part × List (List ℕ)) PolicyFault

-- the events after a word, if it comes next
unfoldable pub events_after : List ℕ → Place → List (List ℕ) → Read (Option EventsText)
events_after keyword place [] = Ok (None, [])
events_after keyword place (word ∷ words) =
    if bytes_eq word keyword then (events_of place words >>= λ read. Ok (Some read.0, read.1)) else Ok (None, word ∷ words)

-- what follows `decides`: CODES
abbrev pub decides : List (List ℕ) → Read Ending
decides [] = Err MissingField
decides (word ∷ words) = codes_in word >>= λ codes. Ok (Decides codes, words)

abbrev pub is_either : List ℕ → List ℕ → List ℕ → Bool
is_either long short word = bytes_eq word long || bytes_eq word short

-- the ending that a word begins. Its last letter may be left out
unfoldable pub ending_of : List ℕ → List (List ℕ) → Read Ending
ending_of word words =
    if is_either (codes "succeeds") (codes "succeed") word then Ok (Succeeds, words)
    else if is_either (codes "fails") (codes "fail") word then Ok (Fails, words)
    else if is_either (codes "ends") (codes "end") word then Ok (Ends, words)
    else if is_either (codes "decides") (codes "decide") word then decides words
    else Err BadVerb

-- `ends` without events says nothing: `with` or `without` has to come next
abbrev pub says_something : Ending → Option EventsText → Option EventsText → Bool
says_something Ends None None = false
says_something ending with_events without_events = true

abbrev pub nothing_said : List (List ℕ) → PolicyFault
nothing_said [] = MissingField
nothing_said (word ∷ words) = ExtraWord

unfoldable pub completed : ConditionText → List (List ℕ) → Read ConditionText
completed c words =
    if says_something c.ending c.with c.without then Ok (c, words) else Err (nothing_said words)

-- ENDING [with EVENTS] [without EVENTS]
unfoldable pub ending_condition : List ℕ → List (List ℕ) → Read ConditionText
ending_condition word words = do
  ending ← ending_of word words
  with_events ← events_after (codes "with") With ending.1
  without_events ← events_after (codes "without") Without with_events.1
  completed record { ending = ending.0; with = with_events.0; without = without_events.0 } without_events.1

-- `asks EVENTS` after `never` and `can`: the stack ends with these
unfoldable pub asking_condition : List (List ℕ) → Read ConditionText
asking_condition words = do
  read ← events_of NeverOrCanAsk words
  Ok (record { ending = Ends; with = Some read.0; without = None }, read.1)

-- what follows `never` and `can`
unfoldable pub condition_of : List (List ℕ) → Read ConditionText
condition_of [] = Err MissingField
condition_of (word ∷ words) =
    if bytes_eq word (codes "asks") || bytes_eq word (codes "ask") then asking_condition words else ending_condition word words

-- what follows `asks`: events that are always asked, or come before others, of which one is enough
abbrev pub asked : EventsText → Option EventsText → SentenceText
asked first None = Never record { ending = Ends; with = None; without = Some first }
asked first (Some later) = Before first (one_of later)

unfoldable pub asking : List (List ℕ) → Read SentenceText
asking words = do
  first ← events_of Asks words
  later ← events_after (codes "before") Asks first.1
  Ok (asked first.0 later.0, later.1)

-- `always` is an ornament of `asks`
abbrev pub always : List (List ℕ) → Read SentenceText
always [] = Err MissingField
always (word ∷ words) = if bytes_eq word (codes "asks") then asking words else Err BadVerb

-- `needs L`: never succeeds without L
abbrev pub needing : EventsText → SentenceText
needing events = Never record { ending = Succeeds; with = None; without = Some events }

-- `obeys A and B`: never succeeds with A or B
abbrev pub obeying : EventsText → SentenceText
obeying events = Never record { ending = Succeeds; with = Some (one_of events); without = None }

abbrev pub needing_read : List (List ℕ) → Read SentenceText
needing_read words = events_of Needs words >>= λ read. Ok (needing read.0, read.1)

abbrev pub obeying_read : List (List ℕ) → Read SentenceText
obeying_read words = events_of Obeys words >>= λ read. Ok (obeying read.0, read.1)

-- THE SENTENCE that words begin with
unfoldable pub sentence_of : List (List ℕ) → Read SentenceText
sentence_of [] = Err MissingField
sentence_of (verb ∷ words) =
    if bytes_eq verb (codes "needs") then needing_read words
    else if bytes_eq verb (codes "obeys") then obeying_read words
    else if bytes_eq verb (codes "always") then always words
    else if bytes_eq verb (codes "asks") then asking words
    else if bytes_eq verb (codes "never") then (condition_of words >>= λ read. Ok (Never read.0, read.1))
    else if bytes_eq verb (codes "can") then (condition_of words >>= λ read. Ok (Can read.0, read.1))
    else Err BadVerb

-- MEANING

-- a program lets the user in after `success`, and in the kind `account` after `new_authtok_reqd`
abbrev pub letting_in : Kind → List ℕ
letting_in Account = success ∷ new_authtok_reqd ∷ []
letting_in kind = success ∷ []

-- THE DECISIONS of an ending
unfoldable pub decisions : Ending → Kind → List ℕ
decisions Succeeds kind = letting_in kind
decisions Fails kind = codes_where (λ code. not (is_in code (letting_in kind)))
decisions Ends kind = all_codes
decisions (Decides codes) kind = codes

-- the decisions that a sentence is about. A stack asks modules in an order, whatever it decides
abbrev pub sentence_decisions : SentenceText → Kind → List ℕ
sentence_decisions (Never c) kind = decisions c.ending kind
sentence_decisions (Can c) kind = decisions c.ending kind
sentence_decisions (Before first later) kind = all_codes

-- THE STRICT EVENTS are those that could make the rule hold; only modules of the system count for them
abbrev pub strict_events : SentenceText → Option EventsText
strict_events (Never c) = c.without
strict_events (Can c) = c.with
strict_events (Before first later) = Some first

-- THE LOOSE EVENTS are the others
abbrev pub loose_events : SentenceText → Option EventsText
loose_events (Never c) = c.with
loose_events (Can c) = c.without
loose_events (Before first later) = Some later
