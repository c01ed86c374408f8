-- A sentence that is read does not join more events by `and` after `with` than can be wanted together.
use Rattle.std.proofs.Common.{◌≡◌, ◌⊎◌, ℕ, ◌+◌, ◌≤◌, Bool, true, false, List, [], ◌∷◌, codes, inl, inr, refl, sym, ◌∙◌, ap, subst, cond, arith, length}
use Rattle.std.proofs.lemmas.Bool.{cases_Bool, false≢true, leb-true}
use Rattle.std.specs.Prelude.{◌||◌, None, Option, Some, Result, Ok, Err, nat_le}
use Rattle.std.specs.Str.{bytes_eq}
use Rattle.pam_policy.specs.declared.rules.error.JudgeError.TheVariants.{TooManyTogether}
use Rattle.pam_policy.specs.declared.text.ending.Ending.TheVariants.{Ends}
use Rattle.pam_policy.specs.declared.text.error.PolicyFault.{PolicyFault}
use Rattle.pam_policy.specs.declared.text.error.PolicyFault.TheVariants.{BadList, BadVerb, MissingField}
use Rattle.pam_policy.specs.declared.text.place.Joint.{Joint}
use Rattle.pam_policy.specs.declared.text.place.Joint.TheVariants.{Or, And}
use Rattle.pam_policy.specs.declared.text.place.Place.{Place}
use Rattle.pam_policy.specs.declared.text.place.Place.TheVariants.{Needs, Obeys, Asks, NeverOrCanAsk, With, Without}
use Rattle.pam_policy.specs.rules.Judging.{AreTooMany, IsReason}
use Rattle.pam_policy.specs.text.Error.{◌>>=◌}
use Rattle.pam_policy.specs.text.Events.{EventText, event_of}
use Rattle.pam_policy.specs.text.Lists.{EventsText, Read, bare_codes, events_of, goes_on, is_limited, joined, joint_before, joint_of}
use Rattle.pam_policy.specs.text.Lists.{roomy, with_joint}
use Rattle.pam_policy.specs.text.Sentences.{ConditionText, SentenceText, Never, Can, always, asked, asking, asking_condition, completed, condition_of}
use Rattle.pam_policy.specs.text.Sentences.{ending_condition, ending_of, events_after, needing_read, nothing_said, obeying_read, says_something, sentence_of}

-- STEPS OF READING that succeed
abbrev pub read_ok : {A : Type 0} → A → Result A PolicyFault
read_ok x = Ok x

pub ok-same : {A : Type 0} (x y : A) → read_ok x ≡ Ok y → x ≡ y
ok-same x y h = cc

pub not-read : {A B : Type 0} (fault : PolicyFault) (y : A) → Err fault ≡ Ok y → B
not-read fault y h = absurd (let k : ⊥ = cc in k)

pub bind-ok : {A B : Type 0} (part : Result A PolicyFault) (f : A → Result B PolicyFault) (y : B) → (part >>= f) ≡ Ok y →
    (x : A) × (part ≡ Ok x) × (f x ≡ Ok y)
bind-ok (Ok x) f y h = (x, refl, h)
bind-ok (Err fault) f y h = not-read fault y h

pub cond-ok : {A : Type 0} (test : Bool) (x y z : A) → cond test x y ≡ z → (x ≡ z) ⊎ (y ≡ z)
cond-ok true x y z h = inl h
cond-ok false x y z h = inr h

-- ONE MORE EVENT
room-few : (limited : Bool) (count : ℕ) (room : Unit {0}) → limited ≡ true →
    cond (cond limited (nat_le (count + 1) 4) true) (Ok tt) (Err BadList) ≡ Ok room → count + 1 ≤ 4
room-few false count room e h = absurd (false≢true e)
room-few true count room e h =
    elim (cases_Bool (nat_le (count + 1) 4)) [
      | inl t ↦ leb-true (count + 1) 4 t
      | inr f ↦ not-read BadList room (ap (λ (t : Bool). cond t (Ok tt) (Err BadList)) (sym f) ∙ h)
    ]

abbrev none_read : List (List ℕ) → Read
none_read words = ([], words)

few-none : (count : ℕ) (words : List (List ℕ)) (read : Read) → count ≤ 4 → read_ok (none_read words) ≡ Ok read → count + length read.0 ≤ 4
few-none count words read few h =
    let same = ap (λ (r : Read). length r.0) (ok-same (none_read words) read h) in
    omega (arith, few, same)

few-last : (count : ℕ) (words : List (List ℕ)) (read : Read) (more : Bool) → count ≤ 4 →
    cond more (Err MissingField) (Ok (none_read words)) ≡ Ok read → count + length read.0 ≤ 4
few-last count words read true few h = not-read MissingField read h
few-last count words read false few h = few-none count words read few h

few-joined : (place : Place) (count : ℕ) (words : List (List ℕ)) (read : Read) → is_limited place And ≡ true → count ≤ 4 →
    joined place And count words ≡ Ok read → count + length read.0 ≤ 4
unfolding joined
few-joined place count [] read limited few h = few-none count [] read few h
few-joined place count (word ∷ []) read limited few h =
    let goes = bind-ok (goes_on place And (joint_of word)) _ read h in
    few-last count (word ∷ []) read goes.0 few goes.2
few-joined place count (word ∷ next ∷ words) read limited few h =
    let goes = bind-ok (goes_on place And (joint_of word)) _ read h in
    elim (cond-ok goes.0 _ (Ok (none_read (word ∷ next ∷ words))) (Ok read) goes.2) [
      | inr none ↦ few-none count (word ∷ next ∷ words) read few none
      | inl some ↦
          let event = bind-ok (event_of (bare_codes place) next) _ read some in
          let room = bind-ok (roomy place And count) _ read event.2 in
          let others = bind-ok (joined place And (count + 1) words) _ read room.2 in
          let below = room-few (is_limited place And) count room.0 limited room.1 in
          let rest = few-joined place (count + 1) words others.0 limited below others.1 in
          let whole : Read = (event.0 ∷ others.0.0, others.0.1) in
          let same = ap (λ (r : Read). length r.0) (ok-same whole read others.2) in
          omega (arith, rest, same)
    ]

-- A LIST
few-by : (place : Place) (joint : Joint) (words : List (List ℕ)) (first : EventText) (others : Read) (events : EventsText) → is_limited place And ≡ true →
    joined place joint 1 words ≡ Ok others → with_joint joint (first ∷ others.0) ≡ events → AreTooMany (Some events) → ⊥
few-by place Or words first others events limited h is many = subst (λ (es : EventsText). AreTooMany (Some es)) (sym is) many
few-by place And words first others events limited h is many =
    let few = few-joined place 1 words others limited (omega arith) h in
    let long = subst (λ (es : EventsText). AreTooMany (Some es)) (sym is) many in
    omega (arith, few, long)

few-list : (place : Place) (words : List (List ℕ)) (read : EventsText × List (List ℕ)) → is_limited place And ≡ true → events_of place words ≡ Ok read →
    AreTooMany (Some read.0) → ⊥
unfolding events_of
few-list place [] read limited h many = not-read MissingField read h
few-list place (word ∷ words) read limited h many =
    let first = bind-ok (event_of (bare_codes place) word) _ read h in
    let others = bind-ok (joined place (joint_before words) 1 words) _ read first.2 in
    let whole : EventsText × List (List ℕ) = (with_joint (joint_before words) (first.0 ∷ others.0.0), others.0.1) in
    few-by place (joint_before words) words first.0 others.0 read.0 limited others.1
    (ap (λ (r : EventsText × List (List ℕ)). r.0) (ok-same whole read others.2)) many

-- AFTER `with`
few-after : (keyword : List ℕ) (words : List (List ℕ)) (read : Option EventsText × List (List ℕ)) → events_after keyword With words ≡ Ok read →
    AreTooMany read.0 → ⊥
unfolding events_after
few-after keyword [] read h many =
    let none : Option EventsText × List (List ℕ) = (None, []) in
    subst AreTooMany (sym (ap (λ (r : Option EventsText × List (List ℕ)). r.0) (ok-same none read h))) many
few-after keyword (word ∷ words) read h many =
    let none : Option EventsText × List (List ℕ) = (None, word ∷ words) in
    elim (cond-ok (bytes_eq word keyword) _ (Ok none) (Ok read) h) [
      | inr e ↦ subst AreTooMany (sym (ap (λ (r : Option EventsText × List (List ℕ)). r.0) (ok-same none read e))) many
      | inl e ↦
          let list = bind-ok (events_of With words) _ read e in
          let some : Option EventsText × List (List ℕ) = (Some list.0.0, list.0.1) in
          few-list With words list.0 refl list.1
          (subst AreTooMany (sym (ap (λ (r : Option EventsText × List (List ℕ)). r.0) (ok-same some read list.2))) many)
    ]

-- A CONDITION
abbrev Found : Type 0
Found = ConditionText × List (List ℕ)

with-same : (one other : Found) → read_ok one ≡ Ok other → one.0.with ≡ other.0.with
with-same one other h = ap (λ (r : Found). r.0.with) (ok-same one other h)

few-ending : (word : List ℕ) (words : List (List ℕ)) (read : Found) → ending_condition word words ≡ Ok read → AreTooMany read.0.with → ⊥
unfolding ending_condition completed
few-ending word words read h many =
    let ending = bind-ok (ending_of word words) _ read h in
    let with_events = bind-ok (events_after (codes "with") With ending.0.1) _ read ending.2 in
    let without_events = bind-ok (events_after (codes "without") Without with_events.0.1) _ read with_events.2 in
    let c : ConditionText = record { ending = ending.0.0; with = with_events.0.0; without = without_events.0.0 } in
    let whole : Found = (c, without_events.0.1) in
    elim (cond-ok (says_something c.ending c.with c.without) (Ok whole) (Err (nothing_said without_events.0.1)) (Ok read) without_events.2) [
      | inl e ↦ few-after (codes "with") ending.0.1 with_events.0 with_events.1 (subst AreTooMany (sym (with-same whole read e)) many)
      | inr e ↦ not-read (nothing_said without_events.0.1) read e
    ]

few-asking : (words : List (List ℕ)) (read : Found) → asking_condition words ≡ Ok read → AreTooMany read.0.with → ⊥
unfolding asking_condition
few-asking words read h many =
    let list = bind-ok (events_of NeverOrCanAsk words) _ read h in
    let c : ConditionText = record { ending = Ends; with = Some list.0.0; without = None } in
    let whole : Found = (c, list.0.1) in
    few-list NeverOrCanAsk words list.0 refl list.1 (subst AreTooMany (sym (with-same whole read list.2)) many)

few-condition : (words : List (List ℕ)) (read : Found) → condition_of words ≡ Ok read → AreTooMany read.0.with → ⊥
unfolding condition_of
few-condition [] read h many = not-read MissingField read h
few-condition (word ∷ words) read h many =
    elim (cond-ok (bytes_eq word (codes "asks") || bytes_eq word (codes "ask")) (asking_condition words) (ending_condition word words) (Ok read) h) [
      | inl e ↦ few-asking words read e many
      | inr e ↦ few-ending word words read e many
    ]

-- A SENTENCE
abbrev Said : Type 0
Said = SentenceText × List (List ℕ)

abbrev IsMany : SentenceText → Type 0
IsMany sentence = IsReason sentence TooManyTogether

many-same : (one other : Said) → read_ok one ≡ Ok other → IsMany other.0 → IsMany one.0
many-same one other h many = subst (λ (r : Said). IsMany r.0) (sym (ok-same one other h)) many

few-asked : (first : EventsText) (later : Option EventsText) → IsMany (asked first later) → ⊥
few-asked first None many = many
few-asked first (Some later) many = many

few-asks : (words : List (List ℕ)) (read : Said) → asking words ≡ Ok read → IsMany read.0 → ⊥
unfolding asking
few-asks words read h many =
    let first = bind-ok (events_of Asks words) _ read h in
    let later = bind-ok (events_after (codes "before") Asks first.0.1) _ read first.2 in
    let whole : Said = (asked first.0.0 later.0.0, later.0.1) in
    few-asked first.0.0 later.0.0 (many-same whole read later.2 many)

few-always : (words : List (List ℕ)) (read : Said) → always words ≡ Ok read → IsMany read.0 → ⊥
few-always [] read h many = not-read MissingField read h
few-always (word ∷ words) read h many =
    elim (cond-ok (bytes_eq word (codes "asks")) (asking words) (Err BadVerb) (Ok read) h) [
      | inl e ↦ few-asks words read e many
      | inr e ↦ not-read BadVerb read e
    ]

few-needs : (words : List (List ℕ)) (read : Said) → needing_read words ≡ Ok read → IsMany read.0 → ⊥
few-needs words read h many =
    let list = bind-ok (events_of Needs words) _ read h in
    many-same _ read list.2 many

few-obeys : (words : List (List ℕ)) (read : Said) → obeying_read words ≡ Ok read → IsMany read.0 → ⊥
few-obeys words read h many =
    let list = bind-ok (events_of Obeys words) _ read h in
    many-same _ read list.2 many

few-never : (words : List (List ℕ)) (read : Said) → (condition_of words >>= λ found. Ok (Never found.0, found.1)) ≡ Ok read → IsMany read.0 → ⊥
few-never words read h many =
    let found = bind-ok (condition_of words) _ read h in
    let whole : Said = (Never found.0.0, found.0.1) in
    few-condition words found.0 found.1 (many-same whole read found.2 many)

few-can : (words : List (List ℕ)) (read : Said) → (condition_of words >>= λ found. Ok (Can found.0, found.1)) ≡ Ok read → IsMany read.0 → ⊥
few-can words read h many =
    let found = bind-ok (condition_of words) _ read h in
    let whole : Said = (Can found.0.0, found.0.1) in
    few-condition words found.0 found.1 (many-same whole read found.2 many)

pub few-sentence : (words : List (List ℕ)) (read : Said) → sentence_of words ≡ Ok read → IsReason read.0 TooManyTogether → ⊥
unfolding sentence_of
few-sentence [] read h many = not-read MissingField read h
few-sentence (verb ∷ words) read h many =
    elim (cond-ok (bytes_eq verb (codes "needs")) _ _ (Ok read) h) [
      | inl e ↦ few-needs words read e many
      | inr g ↦ elim (cond-ok (bytes_eq verb (codes "obeys")) _ _ (Ok read) g) [
        | inl e ↦ few-obeys words read e many
        | inr i ↦ elim (cond-ok (bytes_eq verb (codes "always")) _ _ (Ok read) i) [
          | inl e ↦ few-always words read e many
          | inr j ↦ elim (cond-ok (bytes_eq verb (codes "asks")) _ _ (Ok read) j) [
            | inl e ↦ few-asks words read e many
            | inr k ↦ elim (cond-ok (bytes_eq verb (codes "never")) _ _ (Ok read) k) [
              | inl e ↦ few-never words read e many
              | inr l ↦ elim (cond-ok (bytes_eq verb (codes "can")) _ (Err BadVerb) (Ok read) l) [
                | inl e ↦ few-can words read e many
                | inr m ↦ not-read BadVerb read m
              ]
            ]
          ]
        ]
      ]
    ]
