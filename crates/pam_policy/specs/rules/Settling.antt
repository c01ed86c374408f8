-- Which answers of the modules of a stack break a rule, or show what a stack can do.
use Rattle.std.specs.Prelude.{◌≡◌, ℕ, ◌∷◌, ◌++◌, [], true, false, IfSome, IsTrue, List, Option, option_map}
use Rattle.pam_codes.specs.Set.{is_in}
use Rattle.pam_dispatch.specs.Runs.{Ask, Assignment}
use Rattle.pam_dispatch.specs.State.{start_state}
use Rattle.pam_dispatch.specs.Tree.{asked, decided}
use Rattle.pam_policy.specs.rules.Happening.{PartHappens, PartText, SomeHappens}
use Rattle.pam_policy.specs.rules.Site.{SiteText}
use Rattle.pam_policy.specs.text.Events.{EventText}
use Rattle.pam_policy.specs.text.Lists.{EventsText, events_in}
use Rattle.pam_policy.specs.text.Sentences.{SentenceText, Never, Can, Before, decisions}

-- the modules that are asked in a run, in turn
abbrev pub asked_in : SiteText → Assignment → List Ask
asked_in site answers = asked site.items start_state start_state answers

-- THE STACK ENDS SO: it decides one of these codes, the events of one part happen, and those of another do not
pub record Meets (site : SiteText) (codes : List ℕ) (with_part without_part : Option PartText) (answers : Assignment) : Type 0 where
  pub ends : IsTrue (is_in (decided site.items answers) codes)
  pub happens : IfSome with_part (λ part. PartHappens site part answers (asked_in site answers))
  pub happens_not : IfSome without_part (λ part. PartHappens site part answers (asked_in site answers) → ⊥)

-- EVENTS HAPPEN TOO LATE: one of `later` happens at a module that is asked, any of its name, and those of the first part do not
-- happen at the modules that are asked before that one
pub record OutOfOrder (site : SiteText) (first : PartText) (later : List EventText) (answers : Assignment) : Type 0 where
  pub before : List Ask
  pub ask : Ask
  pub after : List Ask
  pub are_asked : asked_in site answers ≡ before ++ ask ∷ after
  pub here : SomeHappens site false later answers (ask ∷ [])
  pub not_before : PartHappens site first answers before → ⊥

-- where events could make a rule hold, only modules of the system count for them; elsewhere any module of the name
abbrev pub strict : EventsText → PartText
strict events = record { events = events; is_strict = true }

abbrev pub loose : EventsText → PartText
loose events = record { events = events; is_strict = false }

-- THE ANSWERS SETTLE A RULE: they break what is never to be, or what is to come first; or they show what can be
abbrev pub Settles : SiteText → SentenceText → Assignment → Type 0
Settles site (Never c) answers = Meets site (decisions c.ending site.kind) (option_map loose c.with) (option_map strict c.without) answers
Settles site (Can c) answers = Meets site (decisions c.ending site.kind) (option_map strict c.with) (option_map loose c.without) answers
Settles site (Before first others) answers = OutOfOrder site (strict first) (events_in others) answers
