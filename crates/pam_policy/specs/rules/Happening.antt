-- When the events of a rule happen in a run: pam.conf(5), DESCRIPTION, the values that a module returns.
use Rattle.std.specs.Prelude.{ℕ, ◌&&◌, Bool, IsTrue, List, [], ◌∷◌, if◌then◌else◌}
use Rattle.std.specs.List.{list_all}
use Rattle.std.specs.Option.{option_map_or}
use Rattle.pam_codes.specs.Code.{ignored, new_authtok_reqd, success}
use Rattle.pam_codes.specs.Set.{is_in}
use Rattle.pam_conf.specs.declared.rule.Kind.{Kind}
use Rattle.pam_conf.specs.declared.rule.Kind.TheVariants.{Auth}
use Rattle.pam_conf.specs.Stack.{ModuleText, module_at}
use Rattle.pam_dispatch.specs.Runs.{Ask, Assignment}
use Rattle.pam_facts.specs.declared.row.Class.{Class}
use Rattle.pam_facts.specs.declared.row.Class.TheVariants.{Checks, Ignores}
use Rattle.pam_facts.specs.Fitting.{fact_of}
use Rattle.pam_text.specs.Members.{Member}
use Rattle.pam_policy.specs.declared.text.codes.Codes.{Codes}
use Rattle.pam_policy.specs.declared.text.codes.Codes.TheVariants.{Given, LetsGoOn}
use Rattle.pam_policy.specs.rules.Site.{SiteText}
use Rattle.pam_policy.specs.text.Events.{EventText, names_module}
use Rattle.pam_policy.specs.text.Lists.{EventsText, OneOf, EachOf}
use Rattle.pam_policy.specs.text.Tests.{holds}

-- AT A MODULE

-- the answers with which a module lets go on. In `auth` it is not enough that one ignores which says who logs in, or of which
-- nothing is known
abbrev pub letting_go : Kind → Class → List ℕ
letting_go Auth Checks = success ∷ new_authtok_reqd ∷ []
letting_go Auth Ignores = success ∷ new_authtok_reqd ∷ []
letting_go kind class = success ∷ new_authtok_reqd ∷ ignored ∷ []

-- the codes of an event that are meant at a module
abbrev pub codes_meant : SiteText → ModuleText → Codes → List ℕ
codes_meant site m (Given codes) = codes
codes_meant site m LetsGoOn = letting_go site.kind (fact_of site.rows m.path m.arguments).class

-- WHETHER AN EVENT SPEAKS OF A MODULE: it names its path, and each of its tests holds of the arguments
abbrev pub speaks_of : EventText → Bool → ModuleText → Bool
speaks_of event is_strict m = names_module event.name is_strict m.path && list_all (λ test. holds test m.arguments) event.tests

-- the answers of a module by which an event happens there
unfoldable pub codes_at_module : SiteText → Bool → EventText → ModuleText → List ℕ
codes_at_module site is_strict event m = if speaks_of event is_strict m then codes_meant site m event.codes else []

-- THE ANSWERS by which an event happens at the module with this number
unfoldable pub event_answers : SiteText → Bool → EventText → ℕ → List ℕ
event_answers site is_strict event number = option_map_or (codes_at_module site is_strict event) (module_at number site.items) []

-- IN A RUN

-- an event happens at a module that is asked: its answer is one of those
abbrev pub HappensAt : SiteText → Bool → EventText → Assignment → Ask → Type 0
HappensAt site is_strict event answers ask = IsTrue (is_in (answers ask.module_number) (event_answers site is_strict event ask.module_number))

-- it happens at one of some modules that are asked
pub record HappensAmong (site : SiteText) (is_strict : Bool) (event : EventText) (answers : Assignment) (asks : List Ask) : Type 0 where
  pub ask : Ask
  pub among : Member ask asks
  pub here : HappensAt site is_strict event answers ask

-- one of these events does
pub record SomeHappens (site : SiteText) (is_strict : Bool) (events : List EventText) (answers : Assignment) (asks : List Ask) : Type 0 where
  pub event : EventText
  pub member : Member event events
  pub happens : HappensAmong site is_strict event answers asks

-- a list of events of a sentence, and whether only modules of the system count for them
pub record PartText : Type 0 where
  pub events : EventsText
  pub is_strict : Bool

-- THE EVENTS OF A LIST HAPPEN at modules that are asked: one of them, or each, at whatever modules
abbrev pub EventsHappen : SiteText → Bool → EventsText → Assignment → List Ask → Type 0
EventsHappen site is_strict (OneOf events) answers asks = SomeHappens site is_strict events answers asks
EventsHappen site is_strict (EachOf events) answers asks =
    (event : EventText) → Member event events → HappensAmong site is_strict event answers asks

abbrev pub PartHappens : SiteText → PartText → Assignment → List Ask → Type 0
PartHappens site part answers asks = EventsHappen site part.is_strict part.events answers asks
