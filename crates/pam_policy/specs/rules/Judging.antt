-- Whether a rule holds at a stack, and the run that shows it.
use Rattle.std.specs.Prelude.{◌≡◌, ◌⊎◌, ◌≤◌, ◌<◌, Option, Some, None, length}
use Rattle.pam_conf.specs.Stack.{module_count}
use Rattle.pam_dispatch.specs.Runs.{Assignment}
use Rattle.pam_paths.specs.Listing.{Allowance, IsAllowed}
use Rattle.pam_policy.specs.declared.rules.error.JudgeError.{JudgeError}
use Rattle.pam_policy.specs.declared.rules.error.JudgeError.TheVariants.{Memory, TooManyTogether}
use Rattle.pam_policy.specs.declared.rules.verdict.Verdict.{Verdict}
use Rattle.pam_policy.specs.declared.rules.verdict.Verdict.TheVariants.{Holds, Broken, Shown, Impossible}
use Rattle.pam_policy.specs.declared.search.query.TheConstants.{MAX_TOGETHER}
use Rattle.pam_policy.specs.rules.Settling.{Settles}
use Rattle.pam_policy.specs.rules.Site.{SiteText}
use Rattle.pam_policy.specs.search.Runs.{ComesBefore, RunValue, run_of, run_value}
use Rattle.pam_policy.specs.text.Lists.{EventsText, OneOf, EachOf}
use Rattle.pam_policy.specs.text.Sentences.{SentenceText, Never, Can, Before}

-- ANSWERS THAT SETTLE A RULE, as far as a knowledge allows them, and their run
pub record IsSettledBy (allows : Allowance) (site : SiteText) (sentence : SentenceText) (run : RunValue) : Type 0 where
  pub answers : Assignment
  pub allowed : IsAllowed allows (module_count site.items) answers
  pub settles : Settles site sentence answers
  pub is_run : run ≡ run_of site.items answers

-- no allowed answers settle it
abbrev pub IsUnsettled : Allowance → SiteText → SentenceText → Type 0
IsUnsettled allows site sentence = (answers : Assignment) → IsAllowed allows (module_count site.items) answers → Settles site sentence answers → ⊥

-- THE WITNESS: of all runs that settle it those that ask the fewest modules, and of these the one whose answers are shown first
pub record IsWitness (allows : Allowance) (site : SiteText) (sentence : SentenceText) (run : RunValue) : Type 0 where
  pub settled : IsSettledBy allows site sentence run
  pub fewest : (other : RunValue) → IsSettledBy allows site sentence other → length run.steps ≤ length other.steps
  pub first : (other : RunValue) → IsSettledBy allows site sentence other → length other.steps ≡ length run.steps
      → (run ≡ other) ⊎ ComesBefore run.steps other.steps

-- WHAT A VERDICT SAYS: a rule of what can be is shown by a witness, or no answers do so; any other is broken by a witness, or holds
abbrev pub SaysVerdict : Allowance → SiteText → SentenceText → Verdict → Type 0
SaysVerdict allows site (Can c) (Shown run) = IsWitness allows site (Can c) (run_value run)
SaysVerdict allows site (Can c) Impossible = IsUnsettled allows site (Can c)
SaysVerdict allows site (Can c) verdict = ⊥
SaysVerdict allows site sentence (Broken run) = IsWitness allows site sentence (run_value run)
SaysVerdict allows site sentence Holds = IsUnsettled allows site sentence
SaysVerdict allows site sentence verdict = ⊥

-- more events are joined by `and` than can be wanted together
abbrev pub AreTooMany : Option EventsText → Type 0
AreTooMany None = ⊥
AreTooMany (Some (OneOf events)) = ⊥
AreTooMany (Some (EachOf events)) = MAX_TOGETHER < length events

-- WHY THERE IS NO VERDICT: `with` has more than four events that are joined by `and`
abbrev pub IsReason : SentenceText → JudgeError → Type 0
IsReason sentence Memory = Unit {0}
IsReason (Never c) TooManyTogether = AreTooMany c.with
IsReason (Can c) TooManyTogether = AreTooMany c.with
IsReason (Before first others) TooManyTogether = ⊥
