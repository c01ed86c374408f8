-- What the definitions imply.
use Rattle.std.specs.Prelude.{◌≡◌, ◌↔◌, ℕ, false, IsTrue, List, None, Ok}
use Rattle.pam_codes.specs.Code.{all_codes}
use Rattle.pam_codes.specs.Set.{is_in}
use Rattle.pam_conf.specs.Stack.{module_count}
use Rattle.pam_dispatch.specs.Runs.{Assignment}
use Rattle.pam_dispatch.specs.Tree.{decided}
use Rattle.pam_paths.specs.Listing.{Allowance}
use Rattle.pam_text.specs.Members.{Member}
use Rattle.pam_policy.specs.declared.rules.error.JudgeError.TheVariants.{TooManyTogether}
use Rattle.pam_policy.specs.rules.Happening.{PartHappens, SomeHappens}
use Rattle.pam_policy.specs.rules.Judging.{IsReason, IsSettledBy, IsUnsettled, IsWitness}
use Rattle.pam_policy.specs.rules.Settling.{Settles, asked_in, strict}
use Rattle.pam_policy.specs.rules.Site.{SiteText}
use Rattle.pam_policy.specs.search.Laws.{AllowsNoMore}
use Rattle.pam_policy.specs.search.Runs.{RunValue}
use Rattle.pam_policy.specs.text.Lists.{EventsText, events_in}
use Rattle.pam_policy.specs.text.Policy.{rules_of}
use Rattle.pam_policy.specs.text.Rules.{RuleText}
use Rattle.pam_policy.specs.text.Sentences.{SentenceText, asked, letting_in, needing, obeying}

-- WHAT IS ALLOWED

-- a run that settles a rule where less is allowed does so where more is
abbrev pub MoreAllowedSettles : Type 0
MoreAllowedSettles =
    (less more : Allowance) (site : SiteText) (sentence : SentenceText) (run : RunValue) → AllowsNoMore less more (module_count site.items) →
    IsSettledBy less site sentence run → IsSettledBy more site sentence run

-- what nothing breaks under a knowledge, nothing breaks under one that allows no more; and what no answers show, none show there
abbrev pub LessAllowedHolds : Type 0
LessAllowedHolds =
    (less more : Allowance) (site : SiteText) (sentence : SentenceText) → AllowsNoMore less more (module_count site.items) →
    IsUnsettled more site sentence → IsUnsettled less site sentence

-- there is at most one witness
abbrev pub OneWitness : Type 0
OneWitness =
    (allows : Allowance) (site : SiteText) (sentence : SentenceText) (one other : RunValue) → IsWitness allows site sentence one →
    IsWitness allows site sentence other → one ≡ other

-- WHAT BREAKS A SENTENCE of each verb

-- a program lets the user in
abbrev pub LetsIn : SiteText → Assignment → Type 0
LetsIn site answers = IsTrue (is_in (decided site.items answers) (letting_in site.kind))

-- `needs`: it does, and the events do not happen
abbrev pub NeedsSays : Type 0
NeedsSays =
    (site : SiteText) (events : EventsText) (answers : Assignment) →
    Settles site (needing events) answers ↔ (LetsIn site answers × (PartHappens site (strict events) answers (asked_in site answers) → ⊥))

-- `obeys`: it does, and one of the events happens
abbrev pub ObeysSays : Type 0
ObeysSays =
    (site : SiteText) (events : EventsText) (answers : Assignment) →
    Settles site (obeying events) answers ↔ (LetsIn site answers × SomeHappens site false (events_in events) answers (asked_in site answers))

-- `always asks`: the stack decides a code, and the events do not happen
abbrev pub AsksSays : Type 0
AsksSays =
    (site : SiteText) (events : EventsText) (answers : Assignment) →
    Settles site (asked events None) answers
    ↔ (IsTrue (is_in (decided site.items answers) all_codes) × (PartHappens site (strict events) answers (asked_in site answers) → ⊥))

-- WHAT IS READ

-- each rule of a file that is read is judged: its `with` does not join more events than can be wanted together
abbrev pub RulesAreJudged : Type 0
RulesAreJudged =
    (bytes : List ℕ) (before : ℕ) (rules : List RuleText) (rule : RuleText) → rules_of bytes before ≡ Ok rules → Member rule rules →
    IsReason rule.sentence TooManyTogether → ⊥
