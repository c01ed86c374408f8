-- What settles a rule is what is looked for.
use Rattle.std.proofs.Common.{◌≡◌, ◌∙◌, ℕ, Bool, List, Option, None, Some, ap, refl, subst}
use Rattle.std.specs.Prelude.{option_map}
use Rattle.pam_paths.specs.Listing.{Allowance}
use Rattle.pam_policy.specs.declared.search.run.Run.{Run}
use Rattle.pam_policy.specs.declared.text.list.Events.{Events}
use Rattle.pam_policy.specs.rules.Happening.{PartText}
use Rattle.pam_policy.specs.rules.Judging.{IsSettledBy, IsUnsettled, IsWitness, SaysVerdict}
use Rattle.pam_policy.specs.rules.Settling.{loose, strict}
use Rattle.pam_policy.specs.rules.Site.{SiteText}
use Rattle.pam_policy.specs.rules.inner.Choosing.{SaysFirst, holds_unless, shown_by}
use Rattle.pam_policy.specs.rules.inner.Looking.{AimText, IsLate, IsMet}
use Rattle.pam_policy.specs.search.inner.Distances.{IsFirst}
use Rattle.pam_policy.specs.search.Runs.{RunValue, run_of, run_value}
use Rattle.pam_policy.specs.text.Events.{EventText}
use Rattle.pam_policy.specs.text.Lists.{EventsText, events_in, events_view}
use Rattle.pam_policy.specs.text.Sentences.{ConditionText, SentenceText, Never, Can, Before, decisions}
use Rattle.pam_policy.proofs.RulesProofs.Choosing.{first-same}

-- AIMS
abbrev pub never_aim : SiteText → ConditionText → AimText
never_aim site c = record { decisions = decisions c.ending site.kind; with = option_map loose c.with; without = option_map strict c.without }

abbrev pub can_aim : SiteText → ConditionText → AimText
can_aim site c = record { decisions = decisions c.ending site.kind; with = option_map strict c.with; without = option_map loose c.without }

module _ (allows : Allowance) (site : SiteText) where
  pub never-first : (c : ConditionText) (aim : AimText) (found : Option Run) → aim ≡ never_aim site c → SaysFirst (IsMet allows site aim) found →
      SaysFirst (IsSettledBy allows site (Never c)) found
  never-first c aim found is h =
      first-same (IsMet allows site (never_aim site c)) (IsSettledBy allows site (Never c))
      (λ run m. record { answers = m.answers; allowed = m.allowed; settles = m.meets; is_run = m.is_run })
      (λ run m. record { answers = m.answers; allowed = m.allowed; meets = m.settles; is_run = m.is_run }) found
      (subst (λ (a : AimText). SaysFirst (IsMet allows site a) found) is h)

  pub can-first : (c : ConditionText) (aim : AimText) (found : Option Run) → aim ≡ can_aim site c → SaysFirst (IsMet allows site aim) found →
      SaysFirst (IsSettledBy allows site (Can c)) found
  can-first c aim found is h =
      first-same (IsMet allows site (can_aim site c)) (IsSettledBy allows site (Can c))
      (λ run m. record { answers = m.answers; allowed = m.allowed; settles = m.meets; is_run = m.is_run })
      (λ run m. record { answers = m.answers; allowed = m.allowed; meets = m.settles; is_run = m.is_run }) found
      (subst (λ (a : AimText). SaysFirst (IsMet allows site a) found) is h)

  pub before-first : (first others : EventsText) (later : List EventText) (found : Option Run) → later ≡ events_in others →
      SaysFirst (IsLate allows site (strict first) later) found → SaysFirst (IsSettledBy allows site (Before first others)) found
  before-first first others later found is h =
      first-same (IsLate allows site (strict first) (events_in others)) (IsSettledBy allows site (Before first others))
      (λ run m. record { answers = m.answers; allowed = m.allowed; settles = m.late; is_run = m.is_run })
      (λ run m. record { answers = m.answers; allowed = m.allowed; late = m.settles; is_run = m.is_run }) found
      (subst (λ (es : List EventText). SaysFirst (IsLate allows site (strict first) es) found) is h)

  -- THE FIRST RUN is the witness; where there is none, nothing settles the rule
  module _ (sentence : SentenceText) where
    pub first-witness : (run : RunValue) → IsFirst (IsSettledBy allows site sentence) run → IsWitness allows site sentence run
    first-witness run h = record { settled = h.such; fewest = h.fewest; first = h.first }

    pub none-unsettled : ((run : RunValue) → IsSettledBy allows site sentence run → ⊥) → IsUnsettled allows site sentence
    none-unsettled none answers ok settles =
        none (run_of site.items answers) (record { answers = answers; allowed = ok; settles = settles; is_run = refl })

-- AIMS ARE THE SAME if their parts are
abbrev aim_of : List ℕ → Option PartText → Option PartText → AimText
aim_of codes with_part without_part = record { decisions = codes; with = with_part; without = without_part }

pub aim-same : (d e : List ℕ) (w x u v : Option PartText) → d ≡ e → w ≡ x → u ≡ v → aim_of d w u ≡ aim_of e x v
aim-same d e w x u v p q r = ap (λ (a : List ℕ). aim_of a w u) p ∙ ap (λ (b : Option PartText). aim_of e b u) q ∙ ap (aim_of e x) r

abbrev part_by : Bool → EventsText → PartText
part_by is_strict events = record { events = events; is_strict = is_strict }

pub parts-of : (is_strict : Bool) (events : Option Events) →
    option_map (λ e. part_by is_strict (events_view e)) events ≡ option_map (part_by is_strict) (option_map events_view events)
parts-of is_strict None = refl
parts-of is_strict (Some events) = refl

-- VERDICTS
module _ (allows : Allowance) (site : SiteText) where
  pub never-verdict : (c : ConditionText) (found : Option Run) → SaysFirst (IsSettledBy allows site (Never c)) found →
      SaysVerdict allows site (Never c) (holds_unless found)
  never-verdict c None h = none-unsettled allows site (Never c) h
  never-verdict c (Some run) h = first-witness allows site (Never c) (run_value run) h

  pub before-verdict : (first others : EventsText) (found : Option Run) → SaysFirst (IsSettledBy allows site (Before first others)) found →
      SaysVerdict allows site (Before first others) (holds_unless found)
  before-verdict first others None h = none-unsettled allows site (Before first others) h
  before-verdict first others (Some run) h = first-witness allows site (Before first others) (run_value run) h

  pub can-verdict : (c : ConditionText) (found : Option Run) → SaysFirst (IsSettledBy allows site (Can c)) found →
      SaysVerdict allows site (Can c) (shown_by found)
  can-verdict c None h = none-unsettled allows site (Can c) h
  can-verdict c (Some run) h = first-witness allows site (Can c) (run_value run) h
