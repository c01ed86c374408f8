-- What the definitions imply.
use Rattle.std.proofs.Common.{◌≡◌, ◌∙◌, ℕ, Bool, true, false, List, [], ◌∷◌, ◌++◌, Option, Some, None, ap, inl, inr, map, refl, subst, sym}
use Rattle.std.proofs.lemmas.Bool.{false≢true}
use Rattle.std.specs.List.{list_all}
use Rattle.std.specs.Option.{option_map_or}
use Rattle.std.specs.Prelude.{◌&&◌, IsTrue, cond, is_some, nat_lt, option_and_then, slice_get}
use Rattle.pam_codes.specs.Set.{is_in}
use Rattle.pam_conf.specs.Stack.{Items, ModuleText, module_at}
use Rattle.pam_dispatch.specs.Runs.{Assignment}
use Rattle.pam_paths.proofs.Listings.{Member-map, Member-map_back}
use Rattle.pam_text.specs.Members.{Member}
use Rattle.pam_policy.specs.declared.needs.choices.Choice.{Choice}
use Rattle.pam_policy.specs.declared.needs.choices.Choice.TheVariants as choices
use Rattle.pam_policy.specs.declared.needs.event.StackEvent.{StackEvent}
use Rattle.pam_policy.specs.declared.needs.sentences.Verb.TheVariants as verbs
use Rattle.pam_policy.specs.declared.text.codes.Codes.TheVariants.{LetsGoOn}
use Rattle.pam_policy.specs.host.Stacks.{KnownSite}
use Rattle.pam_policy.specs.needs.Choices.{AreNeeded, Holds, IsChosen, IsSaid, SaysOf, bare, needing_some, sentence_about}
use Rattle.pam_policy.specs.needs.Events.{event_argument, event_name, event_text, events_of, tests_for}
use Rattle.pam_policy.specs.needs.Laws.{ArgumentsSayNoMore, EachNameIsThere, EachRuleHolds, FewestAreNeeded, NoneCanBeLeftOut, OneFewest}
use Rattle.pam_policy.specs.needs.Laws.{rule_sentence}
use Rattle.pam_policy.specs.needs.Suggestions.{AreChosen, IsGuard, Needs, SuggestionText, put_in, rule_about}
use Rattle.pam_policy.specs.rules.Happening.{HappensAmong, SomeHappens, codes_at_module, codes_meant, event_answers}
use Rattle.pam_policy.specs.rules.Settling.{asked_in}
use Rattle.pam_policy.specs.rules.Site.{SiteText}
use Rattle.pam_policy.specs.text.Events.{EventText, names_module}
use Rattle.pam_policy.specs.text.Lists.{OneOf}
use Rattle.pam_policy.specs.text.Sentences.{needing}
use Rattle.pam_policy.specs.text.Tests.{holds}
use Rattle.pam_policy.proofs.NeedsProofs.Fewest.{fewest-enough, fewest-needed, fewest-one, found-of, groups-enough, member-front, member-split, those-all}

-- MORE EVENTS ARE NEEDED where some of them are

-- what breaks `needs` of more events breaks it of fewer
module _ (known : KnownSite) (fewer more : List EventText) (within : (answers : Assignment) →
    SomeHappens known.site true fewer answers (asked_in known.site answers) →
    SomeHappens known.site true more answers (asked_in known.site answers)) where
  needing-more : Holds known (needing (OneOf fewer)) → Holds known (needing (OneOf more))
  needing-more holds answers allowed settles =
      holds answers allowed (record {
        ends = settles.ends;
        happens = settles.happens;
        happens_not = λ some. settles.happens_not (within answers some);
      })

module _ (known : KnownSite) where
  text-of : StackEvent → EventText
  text-of event = event_text known.site.items LetsGoOn event

  some-more : (xs ys : List StackEvent) → ((x : StackEvent) → Member x xs → Member x ys) → (answers : Assignment) →
      SomeHappens known.site true (map (event_text known.site.items LetsGoOn) xs) answers (asked_in known.site answers) →
      SomeHappens known.site true (map (event_text known.site.items LetsGoOn) ys) answers (asked_in known.site answers)
  some-more xs ys within answers some =
      let of : StackEvent → EventText = λ event. event_text known.site.items LetsGoOn event in
      let back = Member-map_back of some.event xs some.member in
      record {
        event = some.event;
        member = subst (λ (e : EventText). Member e (map of ys)) (sym back.2) (Member-map of back.0 ys (within back.0 back.1));
        happens = some.happens;
      }

  pub more-needed : (xs ys : List StackEvent) → ((x : StackEvent) → Member x xs → Member x ys) → AreNeeded known xs → AreNeeded known ys
  unfolding AreNeeded Member
  more-needed [] ys within needed = absurd needed
  more-needed (x ∷ xs) [] within needed = within x (inl refl)
  more-needed (x ∷ xs) (y ∷ ys) within needed =
      needing-more known (map (event_text known.site.items LetsGoOn) (x ∷ xs)) (map (event_text known.site.items LetsGoOn) (y ∷ ys))
      (some-more (x ∷ xs) (y ∷ ys) within) needed

  needed-holds : (events : List StackEvent) → AreNeeded known events → Holds known (needing_some known.site.items events)
  unfolding AreNeeded
  needed-holds [] needed = absurd needed
  needed-holds (event ∷ events) needed = needed

-- THE FEWEST

pub fewest-are-needed : FewestAreNeeded
fewest-are-needed known before some kept left are needed = fewest-enough (AreNeeded known) before some kept left are needed

pub none-left-out : NoneCanBeLeftOut
none-left-out known before some kept left front back event are is needed =
    fewest-needed (AreNeeded known) (more-needed known) before some kept left front back event are is needed

pub one-fewest : OneFewest
one-fewest known before some kept left other others one two = fewest-one (AreNeeded known) before some kept left other others one two

-- EACH RULE HOLDS

put-later : (event other x : StackEvent) (others : List StackEvent) (less : Bool) → (Member x (event ∷ others) → Member x (put_in event others)) →
    Member x (event ∷ other ∷ others) → Member x (cond less (event ∷ other ∷ others) (other ∷ put_in event others))
unfolding Member
put-later event other x others true rest m = m
put-later event other x others false rest (inl e) = inr (rest (inl e))
put-later event other x others false rest (inr (inl e)) = inl e
put-later event other x others false rest (inr (inr later)) = inr (rest (inr later))

put-member : (event x : StackEvent) (others : List StackEvent) → Member x (event ∷ others) → Member x (put_in event others)
unfolding put_in
put-member event x [] m = m
put-member event x (other ∷ others) m =
    put-later event other x others (nat_lt event.«module» other.«module») (put-member event x others) m

module _ (known : KnownSite) where
  Right : SuggestionText → Type 0
  Right rule = Holds known (rule_sentence known.site.items rule)

  chosen-right : (choice : Choice) (event : StackEvent) → IsChosen known choice event →
      ((e : StackEvent) → IsChosen known choice e → Holds known (rule_sentence known.site.items (rule_about choice e))) →
      (rule : SuggestionText) → rule ≡ rule_about choice event → Holds known (rule_sentence known.site.items rule)
  chosen-right choice event is right rule same =
      subst (λ (r : SuggestionText). Holds known (rule_sentence known.site.items r)) (sym same) (right event is)

  each-chosen : (choice : Choice) → ((e : StackEvent) → IsChosen known choice e → Holds known (rule_sentence known.site.items (rule_about choice e))) →
      (chosen : List StackEvent) → AreChosen known choice chosen → (rule : SuggestionText) → Member rule (map (rule_about choice) chosen) →
      Holds known (rule_sentence known.site.items rule)
  each-chosen choice right chosen are rule m =
      let back = Member-map_back (rule_about choice) rule chosen m in
      let of = found-of (λ (x y : StackEvent). (x ≡ y) × IsChosen known choice x) (events_of known.site.items) chosen are back.0 back.1 in
      chosen-right choice back.0 (subst (IsChosen known choice) of.2.0 of.2.1) right rule back.2

  needed-right : (e : StackEvent) → IsChosen known choices.Needed e → Holds known (needing_some known.site.items (e ∷ []))
  unfolding IsChosen IsSaid sentence_about
  needed-right e is = is.0

  obeyed-right : (e : StackEvent) → IsChosen known choices.Obeyed e → SaysOf known verbs.Obeys e
  unfolding IsChosen IsSaid
  obeyed-right e is = is.0.0

  asked-right : (e : StackEvent) → IsChosen known choices.AskedOnWayIn e → SaysOf known verbs.NeedsAsked e
  unfolding IsChosen IsSaid
  asked-right e is = is.0.0

  always-right : (e : StackEvent) → IsChosen known choices.AlwaysAsked e → SaysOf known verbs.AlwaysAsks e
  unfolding IsChosen IsSaid
  always-right e is = is.0

  guard-right : (vouching group : List StackEvent) (event : StackEvent) → IsGuard known vouching event group → AreNeeded known group
  guard-right vouching group event guard =
      subst (AreNeeded known) (sym guard.group_is)
      (more-needed known (event ∷ guard.fewest) (put_in event guard.fewest) (λ x m. put-member event x guard.fewest m)
      (fewest-enough (AreNeeded known) (event ∷ []) vouching guard.fewest guard.left guard.are_fewest guard.together))

  group-right : (groups : List (List StackEvent)) → ((group : List StackEvent) → Member group groups → AreNeeded known group) →
      (rule : SuggestionText) → Member rule (map Needs groups) → Holds known (rule_sentence known.site.items rule)
  group-right groups each rule m =
      let back = Member-map_back Needs rule groups m in
      subst (λ (r : SuggestionText). Holds known (rule_sentence known.site.items r)) (sym back.2) (needed-holds known back.0 (each back.0 back.1))

pub each-rule-holds : EachRuleHolds
each-rule-holds known rules rule are member =
    let groups : (group : List StackEvent) → Member group are.groups → AreNeeded known group =
    λ group m. groups-enough (AreNeeded known) are.vouching are.groups are.are_groups group m in
    let guards : (group : List StackEvent) → Member group are.guards → AreNeeded known group =
    λ group m. let of = found-of (IsGuard known are.vouching) are.guarding are.guards are.are_guards group m in
    guard-right known are.vouching group of.0 of.2 in
    let one = map (rule_about choices.Needed) are.needed in
    let two = map Needs are.groups in
    let three = map Needs are.guards in
    let four = map (rule_about choices.Obeyed) are.obeyed in
    let five = map (rule_about choices.AskedOnWayIn) are.on_way_in in
    let six = map (rule_about choices.AlwaysAsked) are.always_asked in
    elim (member-split rule (one ++ two ++ three ++ four ++ five) six (subst (Member rule) are.in_order member)) [
      | inr m ↦ each-chosen known choices.AlwaysAsked (always-right known) are.always_asked are.are_always_asked rule m
      | inl m5 ↦ elim (member-split rule (one ++ two ++ three ++ four) five m5) [
        | inr m ↦ each-chosen known choices.AskedOnWayIn (asked-right known) are.on_way_in are.are_on_way_in rule m
        | inl m4 ↦ elim (member-split rule (one ++ two ++ three) four m4) [
          | inr m ↦ each-chosen known choices.Obeyed (obeyed-right known) are.obeyed are.are_obeyed rule m
          | inl m3 ↦ elim (member-split rule (one ++ two) three m3) [
            | inr m ↦ group-right known are.guards guards rule m
            | inl m2 ↦ elim (member-split rule one two m2) [
              | inr m ↦ group-right known are.groups groups rule m
              | inl m ↦ each-chosen known choices.Needed (needed-right known) are.needed are.are_needed rule m
            ]
          ]
        ]
      ]
    ]

-- EACH NAME IS THERE

no-argument : (event : StackEvent) → event.argument ≡ None → IsTrue (is_some event.argument) → ⊥
no-argument event none some = false≢true (sym (ap is_some none) ∙ some)

pub each-name : EachNameIsThere
unfolding IsChosen IsSaid
each-name known rules event are there none says =
    let chosen = those-all (IsChosen known choices.Needed) (events_of known.site.items) are.needed are.are_needed event there
    (says, λ some. absurd (no-argument event none some)) in
    let rule = Needs (event ∷ []) in
    let one = map (rule_about choices.Needed) are.needed in
    let two = map Needs are.groups in
    let three = map Needs are.guards in
    let four = map (rule_about choices.Obeyed) are.obeyed in
    let five = map (rule_about choices.AskedOnWayIn) are.on_way_in in
    let six = map (rule_about choices.AlwaysAsked) are.always_asked in
    subst (Member rule) (sym are.in_order)
    (member-front rule (one ++ two ++ three ++ four ++ five) six
    (member-front rule (one ++ two ++ three ++ four) five
    (member-front rule (one ++ two ++ three) four
    (member-front rule (one ++ two) three
    (member-front rule one two (Member-map (rule_about choices.Needed) event are.needed chosen))))))

-- AN ARGUMENT SAYS NO MORE

bare-argument : (event : StackEvent) (m : Option ModuleText) →
    option_and_then (λ (t : ModuleText). option_and_then (λ position. slice_get t.arguments position) (bare event).argument) m ≡ None
bare-argument event None = refl
bare-argument event (Some m) = refl

bare-text : (items : Items) (event : StackEvent) →
    event_text items LetsGoOn (bare event) ≡ record { name = event_name items event; tests = []; codes = LetsGoOn }
unfolding event_argument event_name
bare-text items event =
    ap (λ (argument : Option (List ℕ)). record { name = event_name items event; tests = tests_for argument; codes = LetsGoOn })
    (bare-argument event (module_at event.«module» items))

-- the answers of an event without tests are more
more-codes : (names tests : Bool) (codes : List ℕ) (code : ℕ) → is_in code (cond (names && tests) codes []) ≡ true →
    is_in code (cond (names && true) codes []) ≡ true
more-codes true true codes code h = h
more-codes true false codes code h = absurd (false≢true h)
more-codes false tests codes code h = absurd (false≢true h)

more-answers : (site : SiteText) (event other : EventText) (number code : ℕ) → other ≡ record { name = event.name; tests = []; codes = event.codes } →
    is_in code (event_answers site true event number) ≡ true → is_in code (event_answers site true other number) ≡ true
unfolding event_answers codes_at_module
more-answers site event other number code is h =
    subst (λ (e : EventText). is_in code (option_map_or (codes_at_module site true e) (module_at number site.items) []) ≡ true) (sym is)
    (at (module_at number site.items) h)
  where
    at : (m : Option ModuleText) → is_in code (option_map_or (codes_at_module site true event) m []) ≡ true →
        is_in code (option_map_or (codes_at_module site true (record { name = event.name; tests = []; codes = event.codes })) m []) ≡ true
    at None k = absurd (false≢true k)
    at (Some m) k =
        more-codes (names_module event.name true m.path) (list_all (λ test. holds test m.arguments) event.tests) (codes_meant site m event.codes) code k

pub arguments-say-no-more : ArgumentsSayNoMore
unfolding sentence_about Member
arguments-say-no-more known event says =
    let items = known.site.items in
    let one = event_text items LetsGoOn event in
    let other = event_text items LetsGoOn (bare event) in
    needing-more known (one ∷ []) (other ∷ [])
    (λ answers some. record {
      event = other;
      member = inl refl;
      happens =
          let same : some.event ≡ one = elim some.member [ inl e ↦ e | inr none ↦ absurd none ] in
          let happens = subst (λ (e : EventText). HappensAmong known.site true e answers (asked_in known.site answers)) same some.happens in
          record {
            ask = happens.ask;
            among = happens.among;
            here = more-answers known.site one other happens.ask.module_number (answers happens.ask.module_number) (bare-text items event) happens.here;
          };
    }) says
