-- Whether a rule says anything of a stack.
use Rattle.std.specs.Prelude.{false, IsTrue, None, option_map}
use Rattle.pam_codes.specs.Code.{all_codes}
use Rattle.pam_codes.specs.Set.{is_in}
use Rattle.pam_conf.specs.Stack.{module_count}
use Rattle.pam_dispatch.specs.Runs.{Assignment}
use Rattle.pam_dispatch.specs.Tree.{decided}
use Rattle.pam_paths.specs.Listing.{Allowance, IsAllowed}
use Rattle.pam_policy.specs.rules.Happening.{SomeHappens}
use Rattle.pam_policy.specs.rules.Settling.{Meets, asked_in, loose, strict}
use Rattle.pam_policy.specs.rules.Site.{SiteText}
use Rattle.pam_policy.specs.text.Lists.{events_in}
use Rattle.pam_policy.specs.text.Sentences.{SentenceText, Never, Can, Before, sentence_decisions}

-- a run is one that a sentence is about: however it ends, the events after `with` happen, or one of those after `before`
abbrev pub Concerns : SiteText → SentenceText → Assignment → Type 0
Concerns site (Never c) answers = Meets site all_codes (option_map loose c.with) None answers
Concerns site (Can c) answers = Meets site all_codes (option_map strict c.with) None answers
Concerns site (Before first others) answers = SomeHappens site false (events_in others) answers (asked_in site answers)

-- ALLOWED ANSWERS with which these events happen
pub record CanHappen (allows : Allowance) (site : SiteText) (sentence : SentenceText) : Type 0 where
  pub answers : Assignment
  pub allowed : IsAllowed allows (module_count site.items) answers
  pub concerns : Concerns site sentence answers

-- ALLOWED ANSWERS with which the stack ends as a sentence says
pub record CanEnd (allows : Allowance) (site : SiteText) (sentence : SentenceText) : Type 0 where
  pub answers : Assignment
  pub allowed : IsAllowed allows (module_count site.items) answers
  pub ends : IsTrue (is_in (decided site.items answers) (sentence_decisions sentence site.kind))
