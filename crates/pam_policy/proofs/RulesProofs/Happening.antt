-- Marks of events happen where the events do.
use Rattle.std.proofs.Common.{◌≡◌, ◌⊎◌, Bool, List, [], ◌∷◌, inl, inr, refl, sym, ◌∙◌, subst}
use Rattle.std.proofs.lemmas.Bool.{cases_Bool, false≢true}
use Rattle.std.specs.List.{list_any}
use Rattle.pam_codes.specs.Set.{is_in}
use Rattle.pam_conf.specs.Stack.{module_count}
use Rattle.pam_dispatch.specs.Runs.{Ask, Assignment}
use Rattle.pam_text.specs.Members.{Member}
use Rattle.pam_paths.proofs.Listings.{Member-map, Member-map_back}
use Rattle.pam_policy.specs.declared.search.marks.Marks.{Marks}
use Rattle.pam_policy.specs.rules.Happening.{EventsHappen, HappensAmong, SomeHappens, event_answers}
use Rattle.pam_policy.specs.rules.Site.{SiteText}
use Rattle.pam_policy.specs.rules.inner.Marking.{AreMarks, AreMarksOf, groups_of}
use Rattle.pam_policy.specs.search.Marks.{codes_at}
use Rattle.pam_policy.specs.search.Queries.{HappensAt}
use Rattle.pam_policy.specs.text.Events.{EventText}
use Rattle.pam_policy.specs.text.Lists.{EventsText, OneOf, EachOf}
use Rattle.pam_policy.proofs.RulesProofs.Asks.{AreOwn}
use Rattle.pam_policy.proofs.RulesProofs.Lists.{any-back, any-of, each-or, some-or}

-- an event that is marked happens at one of these modules
pub record MarksHappen (answers : Assignment) (asks : List Ask) (marks : Marks) : Type 0 where
  pub ask : Ask
  pub among : Member ask asks
  pub here : HappensAt answers marks ask

decide-at : (answers : Assignment) (marks : Marks) (ask : Ask) → HappensAt answers marks ask ⊎ (HappensAt answers marks ask → ⊥)
decide-at answers marks ask =
    elim (cases_Bool (is_in (answers ask.module_number) (codes_at marks ask.module_number))) [
      | inl t ↦ inl t
      | inr f ↦ inr (λ t. false≢true (sym f ∙ t))
    ]

decide-marks : (answers : Assignment) (asks : List Ask) (marks : Marks) → MarksHappen answers asks marks ⊎ (MarksHappen answers asks marks → ⊥)
decide-marks answers asks marks =
    elim (some-or (HappensAt answers marks) (decide-at answers marks) asks) [
      | inl one ↦ inl (record { ask = one.0; among = one.1; here = one.2 })
      | inr none ↦ inr (λ h. none h.ask h.among h.here)
    ]

module _ (site : SiteText) (is_strict : Bool) (answers : Assignment) (asks : List Ask) (own : AreOwn (module_count site.items) answers asks) where
  -- ONE GROUP
  at-marks : (events : List EventText) (marks : Marks) → AreMarks site is_strict events marks → (ask : Ask) → Member ask asks →
      is_in (answers ask.module_number) (codes_at marks ask.module_number)
      ≡ list_any (λ event. is_in (answers ask.module_number) (event_answers site is_strict event ask.module_number)) events
  at-marks events marks are ask i =
      let o = own ask i in
      are ask.module_number (answers ask.module_number) o.first o.last o.code

  pub some-marked : (events : List EventText) (marks : Marks) → AreMarks site is_strict events marks → SomeHappens site is_strict events answers asks →
      MarksHappen answers asks marks
  some-marked events marks are h =
      let ask = h.happens.ask in
      let test : EventText → Bool = λ event. is_in (answers ask.module_number) (event_answers site is_strict event ask.module_number) in
      record { ask = ask; among = h.happens.among; here = at-marks events marks are ask h.happens.among ∙ any-of test events h.event h.member h.happens.here }

  pub marked-some : (events : List EventText) (marks : Marks) → AreMarks site is_strict events marks → MarksHappen answers asks marks →
      SomeHappens site is_strict events answers asks
  marked-some events marks are h =
      let test : EventText → Bool = λ event. is_in (answers h.ask.module_number) (event_answers site is_strict event h.ask.module_number) in
      let back = any-back test events (sym (at-marks events marks are h.ask h.among) ∙ h.here) in
      record { event = back.0; member = back.1; happens = record { ask = h.ask; among = h.among; here = back.2 } }

  -- GROUPS
  abbrev Group : List EventText → Type 0
  Group events = SomeHappens site is_strict events answers asks

  abbrev Marked : Marks → Type 0
  Marked marks = MarksHappen answers asks marks

  groups-marked : (groups : List (List EventText)) (wanted : List Marks) → AreMarksOf site is_strict groups wanted →
      ((events : List EventText) → Member events groups → Group events) → (marks : Marks) → Member marks wanted → Marked marks
  unfolding Member AreMarksOf
  groups-marked [] [] are h marks i = absurd i
  groups-marked [] (first ∷ wanted) are h marks i = absurd are
  groups-marked (events ∷ groups) [] are h marks i = absurd i
  groups-marked (events ∷ groups) (first ∷ wanted) are h marks (inl e) = subst Marked (sym e) (some-marked events first are.0 (h events (inl refl)))
  groups-marked (events ∷ groups) (first ∷ wanted) are h marks (inr i) = groups-marked groups wanted are.1 (λ g j. h g (inr j)) marks i

  marked-groups : (groups : List (List EventText)) (wanted : List Marks) → AreMarksOf site is_strict groups wanted →
      ((marks : Marks) → Member marks wanted → Marked marks) → (events : List EventText) → Member events groups → Group events
  unfolding Member AreMarksOf
  marked-groups [] wanted are h events i = absurd i
  marked-groups (first ∷ groups) [] are h events i = absurd are
  marked-groups (first ∷ groups) (marks ∷ wanted) are h events (inl e) = subst Group (sym e) (marked-some first marks are.0 (h marks (inl refl)))
  marked-groups (first ∷ groups) (marks ∷ wanted) are h events (inr i) = marked-groups groups wanted are.1 (λ m j. h m (inr j)) events i

  abbrev single : EventText → List EventText
  single event = event ∷ []

  happen-groups : (events : EventsText) → EventsHappen site is_strict events answers asks → (group : List EventText) → Member group (groups_of events) →
      Group group
  unfolding Member
  happen-groups (OneOf events) h group (inl e) = subst Group (sym e) h
  happen-groups (OneOf events) h group (inr none) = absurd none
  happen-groups (EachOf events) h group i =
      let back = Member-map_back single group events i in
      subst Group (sym back.2) (record { event = back.0; member = inl refl; happens = h back.0 back.1 })

  groups-happen : (events : EventsText) → ((group : List EventText) → Member group (groups_of events) → Group group) →
      EventsHappen site is_strict events answers asks
  unfolding Member
  groups-happen (OneOf events) h = h events (inl refl)
  groups-happen (EachOf events) h = λ event i.
      let some = h (single event) (Member-map single event events i) in
      elim some.member [
        | inl e ↦ subst (λ (x : EventText). HappensAmong site is_strict x answers asks) e some.happens
        | inr none ↦ absurd none
      ]

  -- THE EVENTS OF A LIST
  pub happen-marked : (events : EventsText) (wanted : List Marks) → AreMarksOf site is_strict (groups_of events) wanted →
      EventsHappen site is_strict events answers asks → (marks : Marks) → Member marks wanted → Marked marks
  happen-marked events wanted are h = groups-marked (groups_of events) wanted are (happen-groups events h)

  pub marked-happen : (events : EventsText) (wanted : List Marks) → AreMarksOf site is_strict (groups_of events) wanted →
      ((marks : Marks) → Member marks wanted → Marked marks) → EventsHappen site is_strict events answers asks
  marked-happen events wanted are h = groups-happen events (marked-groups (groups_of events) wanted are h)

  -- they do not happen if one that is marked does not
  pub one-unmarked : (events : EventsText) (barred : List Marks) → AreMarksOf site is_strict (groups_of events) barred →
      (EventsHappen site is_strict events answers asks → ⊥) → (marks : Marks) × Member marks barred × (Marked marks → ⊥)
  one-unmarked events barred are not =
      elim (each-or Marked (decide-marks answers asks) barred) [
        | inl all ↦ absurd (not (marked-happen events barred are all))
        | inr one ↦ one
      ]

  pub unmarked-not : (events : EventsText) (barred : List Marks) → AreMarksOf site is_strict (groups_of events) barred →
      (marks : Marks) → Member marks barred → (Marked marks → ⊥) → EventsHappen site is_strict events answers asks → ⊥
  unmarked-not events barred are marks i not h = not (happen-marked events barred are h marks i)

  -- no event happens
  pub none-unmarked : (barred : List Marks) → AreMarksOf site is_strict ([] ∷ []) barred →
      (marks : Marks) × Member marks barred × (Marked marks → ⊥)
  unfolding Member AreMarksOf
  none-unmarked [] are = absurd are
  none-unmarked (marks ∷ []) are = (marks, inl refl, λ h. (marked-some [] marks are.0 h).member)
  none-unmarked (marks ∷ other ∷ barred) are = absurd are.1
