-- Rules that are added, one after another.
use Rattle.std.proofs.Common.{◌≡◌, ◌∙◌, ◌↔◌, ℕ, ◌+◌, ◌<◌, ◌≤◌, Bool, true, false, cond, List, [], ◌∷◌, ◌++◌, Option, Some, None, ap, append-nil, append_assoc}
use Rattle.std.proofs.Common.{arith, drop, get_or, length, map, refl, subst, suc, sym}
use Rattle.std.proofs.lemmas.Bool.{false≢true}
use Rattle.std.proofs.lemmas.List.{drop_more, map-append}
use Rattle.std.specs.List.{insert, prefix_len}
use Rattle.std.specs.Prelude.{IsTrue, nat_lt, not, option_to_list}
use Rattle.pam_policy.specs.declared.needs.choices.Choice.{Choice}
use Rattle.pam_policy.specs.declared.needs.choices.Choice.TheVariants as choices
use Rattle.pam_policy.specs.declared.needs.event.StackEvent.{StackEvent}
use Rattle.pam_policy.specs.declared.needs.suggestion.Suggestion.{Suggestion}
use Rattle.pam_policy.specs.host.Stacks.{KnownSite}
use Rattle.pam_policy.specs.needs.Choices.{AreNeeded, IsChosen}
use Rattle.pam_policy.specs.needs.Events.{events_of}
use Rattle.pam_policy.specs.needs.Fewest.{AreFewest, AreFound, AreGroups, AreThose}
use Rattle.pam_policy.specs.needs.Suggestions.{AreChosen, AreSuggestions, IsGuard, Needs, SuggestionText, put_in, rule_about, suggestion_view}
use Rattle.pam_policy.specs.needs.inner.Adding.{AddsChosen, AddsGroups, AddsGuards, SaysGuard}
use Rattle.pam_policy.proofs.NeedsProofs.Fewest.{GroupsSoFar, SoFar, fewest-enough, fewest-length, fewest-one, found-done, found-next, found-skip}
use Rattle.pam_policy.proofs.NeedsProofs.Fewest.{groups-done, groups-next}

-- AN EVENT IN ITS PLACE

abbrev pub is_before : StackEvent → StackEvent → Bool
is_before event other = not (nat_lt event.«module» other.«module»)

put-first : (event x : StackEvent) (xs : List StackEvent) (less : Bool) → put_in event xs ≡ insert xs (prefix_len (is_before event) xs) event →
    cond less (event ∷ x ∷ xs) (x ∷ put_in event xs)
    ≡ insert (x ∷ xs) (cond (not less) (1 + prefix_len (is_before event) xs) 0) event
put-first event x xs true rest = refl
put-first event x xs false rest =
    ap (λ (ys : List StackEvent). x ∷ ys) rest
    ∙ ap (λ (n : ℕ). insert (x ∷ xs) n event) (one-more (prefix_len (is_before event) xs))
  where
    one-more : (n : ℕ) → suc n ≡ 1 + n
    one-more n = omega arith

pub put-in-is : (event : StackEvent) (xs : List StackEvent) → put_in event xs ≡ insert xs (prefix_len (is_before event) xs) event
unfolding put_in
put-in-is event [] = refl
put-in-is event (x ∷ xs) = put-first event x xs (nat_lt event.«module» x.«module») (put-in-is event xs)

-- GUARDS

module _ (known : KnownSite) (vouching : List StackEvent) (event : StackEvent) where
  pub guard-not-together : (together : Bool) → together ≡ false → IsTrue together ↔ AreNeeded known (event ∷ vouching) →
      (group : List StackEvent) → IsGuard known vouching event group → ⊥
  guard-not-together together holds_not h group guard = false≢true (sym holds_not ∙ h.1 guard.together)

  pub guard-not-alone : (kept left : List StackEvent) (without : Bool) → AreFewest (AreNeeded known) (event ∷ []) vouching kept left →
      without ≡ true → IsTrue without ↔ AreNeeded known kept → (group : List StackEvent) → IsGuard known vouching event group → ⊥
  guard-not-alone kept left without are holds_so h group guard =
      let same = fewest-one (AreNeeded known) (event ∷ []) vouching kept left guard.fewest guard.left are guard.are_fewest in
      guard.alone_not (subst (AreNeeded known) same.0 (h.0 holds_so))

  pub guard-found : (kept left group : List StackEvent) (together without : Bool) (place : ℕ) → together ≡ true →
      IsTrue together ↔ AreNeeded known (event ∷ vouching) → AreFewest (AreNeeded known) (event ∷ []) vouching kept left →
      without ≡ false → IsTrue without ↔ AreNeeded known kept → place ≡ prefix_len (is_before event) kept → group ≡ insert kept place event →
      IsGuard known vouching event group
  guard-found kept left group together without place holds_so h are holds_not k place_is group_is = record {
    together = h.0 holds_so;
    fewest = kept;
    left = left;
    are_fewest = are;
    alone_not = λ needed. false≢true (sym holds_not ∙ k.1 needed);
    group_is = group_is ∙ ap (λ (n : ℕ). insert kept n event) place_is ∙ sym (put-in-is event kept);
  }

-- RULES for lists of events

abbrev pub texts : List Suggestion → List SuggestionText
texts rules = map suggestion_view rules

pub push-text : (base old new : List SuggestionText) (rules later : List Suggestion) (rule : Suggestion) (groups : List (List StackEvent))
    (group : List StackEvent) → later ≡ rules ++ rule ∷ [] → suggestion_view rule ≡ Needs group → old ≡ texts rules → new ≡ texts later →
    old ≡ base ++ map Needs groups → new ≡ base ++ map Needs (groups ++ group ∷ [])
push-text base old new rules later rule groups group pushed is old_is new_is adds =
    new_is ∙ ap texts pushed ∙ map-append suggestion_view rules (rule ∷ [])
    ∙ ap (λ (ts : List SuggestionText). ts ++ suggestion_view rule ∷ []) (sym old_is ∙ adds)
    ∙ append_assoc base (map Needs groups) (suggestion_view rule ∷ [])
    ∙ ap (λ (t : SuggestionText). base ++ (map Needs groups ++ t ∷ [])) is
    ∙ ap (λ (ts : List SuggestionText). base ++ ts) (sym (map-append Needs groups (group ∷ [])))

-- GROUPS, one after another

pub record GroupsAdded (known : KnownSite) (vouching rest : List StackEvent) (turns : ℕ) (old new : List SuggestionText) : Type 0 where
  pub groups : List (List StackEvent)
  pub so_far : GroupsSoFar (AreNeeded known) vouching rest groups
  pub adds : new ≡ old ++ map Needs groups
  pub few : length rest + turns ≤ length vouching

none-needed : (known : KnownSite) → AreNeeded known [] → ⊥
unfolding AreNeeded
none-needed known h = h

some-needed : (known : KnownSite) (events : List StackEvent) → AreNeeded known events → 1 ≤ length events
some-needed known [] h = absurd (none-needed known h)
some-needed known (event ∷ events) h = omega arith

pub groups-start : (known : KnownSite) (vouching rest : List StackEvent) (old : List SuggestionText) → rest ≡ vouching →
    GroupsAdded known vouching rest 0 old old
groups-start known vouching rest old is = record {
  groups = [];
  so_far = λ more are. subst (λ (r : List StackEvent). AreGroups (AreNeeded known) r more) is are;
  adds = sym (append-nil old);
  few = omega (arith, ap length is);
}

pub groups-more : (known : KnownSite) (vouching rest kept left : List StackEvent) (turns : ℕ) (old : List SuggestionText) (rules later : List Suggestion)
    (rule : Suggestion) (needed : Bool) → needed ≡ true → IsTrue needed ↔ AreNeeded known rest → AreFewest (AreNeeded known) [] rest kept left →
    later ≡ rules ++ rule ∷ [] → suggestion_view rule ≡ Needs kept → GroupsAdded known vouching rest turns old (texts rules) →
    GroupsAdded known vouching left (turns + 1) old (texts later)
groups-more known vouching rest kept left turns old rules later rule needed holds_so h are pushed is added =
    let all = h.0 holds_so in
    let some = some-needed known kept (fewest-enough (AreNeeded known) [] rest kept left are all) in
    let count = fewest-length (AreNeeded known) [] rest kept left are in
    record {
      groups = added.groups ++ kept ∷ [];
      so_far = groups-next (AreNeeded known) vouching rest kept left added.groups all are added.so_far;
      adds = push-text old (texts rules) (texts later) rules later rule added.groups kept pushed is refl refl added.adds;
      few = omega (arith, some, count, added.few);
    }

pub groups-end : (known : KnownSite) (vouching rest : List StackEvent) (turns : ℕ) (old new : List SuggestionText) (needed : Bool) → needed ≡ false →
    IsTrue needed ↔ AreNeeded known rest → GroupsAdded known vouching rest turns old new → AddsGroups known vouching old new
groups-end known vouching rest turns old new needed holds_not h added = record {
  groups = added.groups;
  are_groups = groups-done (AreNeeded known) vouching rest added.groups (λ all. false≢true (sym holds_not ∙ h.1 all)) added.so_far;
  adds = added.adds;
}

-- no event is left
pub groups-all : (known : KnownSite) (vouching rest : List StackEvent) (turns : ℕ) (old new : List SuggestionText) → length vouching ≤ turns →
    GroupsAdded known vouching rest turns old new → AddsGroups known vouching old new
groups-all known vouching rest turns old new past added = record {
  groups = added.groups;
  are_groups = groups-done (AreNeeded known) vouching rest added.groups
      (λ all. absurd (omega (arith, some-needed known rest all, added.few, past))) added.so_far;
  adds = added.adds;
}

-- GUARDS, one after another

pub record GuardsAdded (known : KnownSite) (vouching guarding : List StackEvent) (turns : ℕ) (old new : List SuggestionText) : Type 0 where
  pub guards : List (List StackEvent)
  pub so_far : SoFar (IsGuard known vouching) guarding turns guards
  pub adds : new ≡ old ++ map Needs guards

module _ (known : KnownSite) (vouching guarding : List StackEvent) where
  pub guards-start : (old : List SuggestionText) → GuardsAdded known vouching guarding 0 old old
  guards-start old = record { guards = []; so_far = λ rest are. are; adds = sym (append-nil old) }

  pub guards-more : (turns : ℕ) (event : StackEvent) (found : Option (List StackEvent)) (old now later : List SuggestionText) → turns < length guarding →
      SaysGuard known vouching (get_or guarding turns event) found → later ≡ now ++ map Needs (option_to_list found) →
      GuardsAdded known vouching guarding turns old now → GuardsAdded known vouching guarding (turns + 1) old later
  guards-more turns event (Some group) old now later within guard adds added = record {
    guards = added.guards ++ group ∷ [];
    so_far = found-next (IsGuard known vouching) guarding turns event added.guards (added.guards ++ group ∷ []) group refl within guard added.so_far;
    adds =
        adds ∙ ap (λ (ts : List SuggestionText). ts ++ Needs group ∷ []) added.adds
        ∙ append_assoc old (map Needs added.guards) (Needs group ∷ [])
        ∙ ap (λ (ts : List SuggestionText). old ++ ts) (sym (map-append Needs added.guards (group ∷ [])));
  }
  guards-more turns event None old now later within guard adds added = record {
    guards = added.guards;
    so_far = found-skip (IsGuard known vouching) guarding turns event added.guards within guard added.so_far;
    adds = adds ∙ append-nil now ∙ added.adds;
  }

  pub guards-end : (turns : ℕ) (old new : List SuggestionText) → length guarding ≤ turns → GuardsAdded known vouching guarding turns old new →
      AddsGuards known vouching guarding old new
  guards-end turns old new past added = record {
    guards = added.guards;
    are_guards = found-done (IsGuard known vouching) guarding turns added.guards past added.so_far;
    adds = added.adds;
  }

-- ALL RULES

all-parts : (known : KnownSite) (events vouching guarding : List StackEvent) (r1 r2 r3 r4 r5 r6 : List SuggestionText) →
    events ≡ events_of known.site.items → AddsChosen known choices.Needed events [] r1 →
    AreFound (λ (x y : StackEvent). (x ≡ y) × IsChosen known choices.Vouching x) events vouching → AddsGroups known vouching r1 r2 →
    AreFound (λ (x y : StackEvent). (x ≡ y) × IsChosen known choices.Guarding x) events guarding → AddsGuards known vouching guarding r2 r3 →
    AddsChosen known choices.Obeyed events r3 r4 → AddsChosen known choices.AskedOnWayIn events r4 r5 →
    AddsChosen known choices.AlwaysAsked events r5 r6 → AreSuggestions known r6
all-parts known events vouching guarding r1 r2 r3 r4 r5 r6 is a v b g c d e f = record {
  needed = a.chosen;
  are_needed = at choices.Needed a.chosen a.are_chosen;
  vouching = vouching;
  are_vouching = at choices.Vouching vouching v;
  groups = b.groups;
  are_groups = b.are_groups;
  guarding = guarding;
  are_guarding = at choices.Guarding guarding g;
  guards = c.guards;
  are_guards = c.are_guards;
  obeyed = d.chosen;
  are_obeyed = at choices.Obeyed d.chosen d.are_chosen;
  on_way_in = e.chosen;
  are_on_way_in = at choices.AskedOnWayIn e.chosen e.are_chosen;
  always_asked = f.chosen;
  are_always_asked = at choices.AlwaysAsked f.chosen f.are_chosen;
  in_order =
      f.adds
      ∙ ap (λ (ts : List SuggestionText). ts ++ map (rule_about choices.AlwaysAsked) f.chosen)
      (e.adds ∙ ap (λ (ts : List SuggestionText). ts ++ map (rule_about choices.AskedOnWayIn) e.chosen)
      (d.adds ∙ ap (λ (ts : List SuggestionText). ts ++ map (rule_about choices.Obeyed) d.chosen)
      (c.adds ∙ ap (λ (ts : List SuggestionText). ts ++ map Needs c.guards)
      (b.adds ∙ ap (λ (ts : List SuggestionText). ts ++ map Needs b.groups) a.adds))));
}
  where
    at : (choice : Choice) (chosen : List StackEvent) → AreFound (λ (x y : StackEvent). (x ≡ y) × IsChosen known choice x) events chosen →
        AreChosen known choice chosen
    at choice chosen are = subst (λ (es : List StackEvent). AreThose (IsChosen known choice) es chosen) is are

pub all-rules : (known : KnownSite) (e1 e2 e3 e4 e5 e6 vouching v2 v3 guarding g2 : List StackEvent) (r0 r1 r2 r3 r4 r5 r6 : List SuggestionText) →
    r0 ≡ [] → e1 ≡ events_of known.site.items → e2 ≡ events_of known.site.items → e3 ≡ events_of known.site.items →
    e4 ≡ events_of known.site.items → e5 ≡ events_of known.site.items → e6 ≡ events_of known.site.items →
    v2 ≡ vouching → v3 ≡ vouching → g2 ≡ guarding → AddsChosen known choices.Needed e1 r0 r1 →
    AreThose (IsChosen known choices.Vouching) e2 vouching → AddsGroups known v2 r1 r2 → AreThose (IsChosen known choices.Guarding) e3 guarding →
    AddsGuards known v3 g2 r2 r3 → AddsChosen known choices.Obeyed e4 r3 r4 → AddsChosen known choices.AskedOnWayIn e5 r4 r5 →
    AddsChosen known choices.AlwaysAsked e6 r5 r6 → AreSuggestions known r6
all-rules known e1 e2 e3 e4 e5 e6 vouching v2 v3 guarding g2 r0 r1 r2 r3 r4 r5 r6 none i1 i2 i3 i4 i5 i6 j2 j3 k2 a v b g c d e f =
    let all = events_of known.site.items in
    all-parts known all vouching guarding r1 r2 r3 r4 r5 r6 refl
    (subst (λ (l : List SuggestionText). AddsChosen known choices.Needed all l r1) none
    (subst (λ (es : List StackEvent). AddsChosen known choices.Needed es r0 r1) i1 a))
    (subst (λ (es : List StackEvent). AreThose (IsChosen known choices.Vouching) es vouching) i2 v)
    (subst (λ (vs : List StackEvent). AddsGroups known vs r1 r2) j2 b)
    (subst (λ (es : List StackEvent). AreThose (IsChosen known choices.Guarding) es guarding) i3 g)
    (subst (λ (gs : List StackEvent). AddsGuards known vouching gs r2 r3) k2 (subst (λ (vs : List StackEvent). AddsGuards known vs g2 r2 r3) j3 c))
    (subst (λ (es : List StackEvent). AddsChosen known choices.Obeyed es r3 r4) i4 d)
    (subst (λ (es : List StackEvent). AddsChosen known choices.AskedOnWayIn es r4 r5) i5 e)
    (subst (λ (es : List StackEvent). AddsChosen known choices.AlwaysAsked es r5 r6) i6 f)

-- a rule about each of some events
pub each-next : (about : StackEvent → SuggestionText) (chosen : List StackEvent) (i : ℕ) (d : StackEvent) (all : List SuggestionText)
    (old new : List Suggestion) (rule : Suggestion) → new ≡ old ++ rule ∷ [] → i < length chosen → suggestion_view rule ≡ about (get_or chosen i d) →
    texts old ++ map about (drop i chosen) ≡ all → texts new ++ map about (drop (i + 1) chosen) ≡ all
each-next about chosen i d all old new rule pushed within is so_far =
    ap (λ (rules : List Suggestion). texts rules ++ map about (drop (i + 1) chosen)) pushed
    ∙ ap (λ (ts : List SuggestionText). ts ++ map about (drop (i + 1) chosen)) (map-append suggestion_view old (rule ∷ []))
    ∙ append_assoc (texts old) (suggestion_view rule ∷ []) (map about (drop (i + 1) chosen))
    ∙ ap (λ (t : SuggestionText). texts old ++ t ∷ map about (drop (i + 1) chosen)) is
    ∙ ap (λ (es : List StackEvent). texts old ++ map about es) (sym (drop_more chosen i d within))
    ∙ so_far
