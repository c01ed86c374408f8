-- For private contracts and proofs alone: the first run in which a stack ends in some way, with some events and without others.
use Rattle.std.specs.Prelude.{◌≡◌, ℕ, true, false, List, [], ◌∷◌, ◌++◌, Option, None, Some, option_map}
use Rattle.pam_codes.specs.Code.{all_codes}
use Rattle.pam_conf.specs.Stack.{module_count}
use Rattle.pam_dispatch.specs.Runs.{Ask, Assignment}
use Rattle.pam_paths.specs.Listing.{Allowance, IsAllowed}
use Rattle.pam_text.specs.Members.{Member}
use Rattle.pam_policy.specs.declared.rules.error.JudgeError.{JudgeError}
use Rattle.pam_policy.specs.declared.rules.error.JudgeError.TheVariants.{Memory, TooManyTogether}
use Rattle.pam_policy.specs.declared.search.marks.Marks.{Marks}
use Rattle.pam_policy.specs.declared.search.query.Query.{Query}
use Rattle.pam_policy.specs.declared.search.query.Query.TheVariants.{Together}
use Rattle.pam_policy.specs.rules.Happening.{PartText, SomeHappens}
use Rattle.pam_policy.specs.rules.Judging.{AreTooMany}
use Rattle.pam_policy.specs.rules.Settling.{Meets, OutOfOrder, asked_in}
use Rattle.pam_policy.specs.rules.Site.{SiteText}
use Rattle.pam_policy.specs.rules.inner.Marking.{AreMarksOf, groups_of}
use Rattle.pam_policy.specs.search.Queries.{Happens, HappensAt}
use Rattle.pam_policy.specs.search.Runs.{RunValue, run_of}
use Rattle.pam_policy.specs.text.Events.{EventText}

-- WHAT IS LOOKED FOR: runs that decide one of some codes, with the events of one part and without those of another
pub record AimText : Type 0 where
  pub decisions : List ℕ
  pub with : Option PartText
  pub without : Option PartText

pub record IsMet (allows : Allowance) (site : SiteText) (aim : AimText) (run : RunValue) : Type 0 where
  pub answers : Assignment
  pub allowed : IsAllowed allows (module_count site.items) answers
  pub meets : Meets site aim.decisions aim.with aim.without answers
  pub is_run : run ≡ run_of site.items answers

-- the same, where one of these events does not happen
pub record IsMetBarring (allows : Allowance) (site : SiteText) (aim : AimText) (barred : List Marks) (run : RunValue) : Type 0 where
  pub marks : Marks
  pub member : Member marks barred
  pub answers : Assignment
  pub allowed : IsAllowed allows (module_count site.items) answers
  pub meets : Meets site aim.decisions aim.with None answers
  pub barred_not : Happens site.items answers marks → ⊥
  pub is_run : run ≡ run_of site.items answers

-- what has to happen so that the events of a part do
abbrev pub AreWanted : SiteText → Option PartText → List Marks → Type 0
AreWanted site None wanted = wanted ≡ []
AreWanted site (Some part) wanted = AreMarksOf site part.is_strict (groups_of part.events) wanted

-- of which one must not happen so that the events of a part do not: an event that never happens if there are none
abbrev pub AreBarred : SiteText → Option PartText → List Marks → Type 0
AreBarred site None barred = AreMarksOf site true ([] ∷ []) barred
AreBarred site (Some part) barred = AreMarksOf site part.is_strict (groups_of part.events) barred

-- a query of what is looked for, where one event does not happen
abbrev pub IsTogether : SiteText → AimText → Marks → Query → Type 0
IsTogether site aim marks (Together wanted barred decisions) = AreWanted site aim.with wanted.items × (barred ≡ marks) × (decisions ≡ aim.decisions)
IsTogether site aim marks query = ⊥

-- why a run is not looked for
abbrev pub IsReasonFor : Option PartText → JudgeError → Type 0
IsReasonFor with_part Memory = Unit {0}
IsReasonFor with_part TooManyTogether = AreTooMany (option_map (λ part. part.events) with_part)

-- THE RUNS IN WHICH EVENTS HAPPEN TOO LATE
pub record IsLate (allows : Allowance) (site : SiteText) (first : PartText) (later : List EventText) (run : RunValue) : Type 0 where
  pub answers : Assignment
  pub allowed : IsAllowed allows (module_count site.items) answers
  pub late : OutOfOrder site first later answers
  pub is_run : run ≡ run_of site.items answers

-- the same, where one of these events does not happen before
pub record IsLateBarring (allows : Allowance) (site : SiteText) (later : List EventText) (barred : List Marks) (run : RunValue) : Type 0 where
  pub marks : Marks
  pub member : Member marks barred
  pub answers : Assignment
  pub allowed : IsAllowed allows (module_count site.items) answers
  pub before : List Ask
  pub ask : Ask
  pub after : List Ask
  pub are_asked : asked_in site answers ≡ before ++ ask ∷ after
  pub here : SomeHappens site false later answers (ask ∷ [])
  pub not_before : (other : Ask) → Member other before → HappensAt answers marks other → ⊥
  pub is_run : run ≡ run_of site.items answers

-- WHETHER THERE IS A RUN that is looked for; and one in which one of some events happens
abbrev pub CanBeMet : Allowance → SiteText → AimText → Type 0
CanBeMet allows site aim = (run : RunValue) × IsMet allows site aim run

abbrev pub with_alone : Option PartText → AimText
with_alone part = record { decisions = all_codes; with = part; without = None }

pub record SomeCanHappen (allows : Allowance) (site : SiteText) (events : List EventText) : Type 0 where
  pub answers : Assignment
  pub allowed : IsAllowed allows (module_count site.items) answers
  pub happens : SomeHappens site false events answers (asked_in site answers)
