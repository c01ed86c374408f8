-- For private contracts and proofs alone: marks of the events of a list.
use Rattle.std.specs.Prelude.{◌≡◌, ℕ, ◌<◌, ◌≤◌, Bool, List, [], ◌∷◌, map}
use Rattle.std.specs.List.{list_any}
use Rattle.pam_codes.specs.Set.{is_in}
use Rattle.pam_conf.specs.Stack.{module_count}
use Rattle.pam_policy.specs.declared.rules.part.Part.{Part}
use Rattle.pam_policy.specs.declared.search.marks.Marks.{Marks}
use Rattle.pam_policy.specs.rules.Happening.{PartText, event_answers}
use Rattle.pam_policy.specs.rules.Site.{SiteText}
use Rattle.pam_policy.specs.search.Marks.{codes_at}
use Rattle.pam_policy.specs.text.Events.{EventText}
use Rattle.pam_policy.specs.text.Lists.{EventsText, OneOf, EachOf, events_view}

abbrev pub part_view : Part → PartText
part_view part = record { events = events_view part.events.now; is_strict = part.is_strict }

-- marks of the modules of a stack have the answers by which one of some events happens
abbrev pub AreMarks : SiteText → Bool → List EventText → Marks → Type 0
AreMarks site is_strict events marks =
    (number code : ℕ) → 1 ≤ number → number ≤ module_count site.items → code < 31 →
    is_in code (codes_at marks number) ≡ list_any (λ event. is_in code (event_answers site is_strict event number)) events

-- each event by itself
abbrev pub singles : List EventText → List (List EventText)
singles events = map (λ event. event ∷ []) events

-- groups of events, in each of which one has to happen so that the events of a list do
abbrev pub groups_of : EventsText → List (List EventText)
groups_of (OneOf events) = events ∷ []
groups_of (EachOf events) = singles events

-- marks of each group
unfoldable pub AreMarksOf : SiteText → Bool → List (List EventText) → List Marks → Type 0
AreMarksOf site is_strict [] [] = Unit {0}
AreMarksOf site is_strict [] (marks ∷ others) = ⊥
AreMarksOf site is_strict (events ∷ groups) [] = ⊥
AreMarksOf site is_strict (events ∷ groups) (marks ∷ others) = AreMarks site is_strict events marks × AreMarksOf site is_strict groups others
