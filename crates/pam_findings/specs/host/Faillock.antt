-- S22: failures that pam_faillock counts in vain, or does not count: pam_faillock(8), on preauth, authfail and authsucc.
use Rattle.std.specs.Prelude.{◌≡◌, ℕ, ◌&&◌, ◌||◌, Bool, true, false, not, List, codes, fold, if◌then◌else◌, Some}
use Rattle.std.specs.Option.{option_map_or}
use Rattle.std.specs.Str.{bytes_eq}
use Rattle.pam_conf.specs.Stack.{ModuleText, module_at}
use Rattle.pam_facts.specs.Paths.{module_name}
use Rattle.pam_paths.specs.Known.{may_answer}
use Rattle.pam_findings.specs.host.Storing.{failures}
use Rattle.pam_findings.specs.host.Verdicts.{Judgement, SaysWhoLogsIn}
use Rattle.pam_findings.specs.stack.Leading.{Leads}
use Rattle.pam_text.specs.Members.{Member}

-- the words that say what a rule of the module is for
abbrev pub is_task : List ℕ → Bool
is_task word = bytes_eq word (codes "preauth") || bytes_eq word (codes "authfail") || bytes_eq word (codes "authsucc")

-- whether a rule is for counting failures, after one more word: of several that say it the last one does
abbrev pub counts_after : Bool → List ℕ → Bool
counts_after counts word = if is_task word then bytes_eq word (codes "authfail") else counts

-- without such a word it is not: its task is then preauth
abbrev pub counts_by : List (List ℕ) → Bool
counts_by arguments = fold counts_after false arguments

abbrev pub is_faillock : ModuleText → Bool
is_faillock rule = option_map_or (λ name. bytes_eq name (codes "pam_faillock")) (module_name rule.path) false

-- a rule of pam_faillock counts failures, or refuses those who failed too often
abbrev pub has_task : Bool → ModuleText → Bool
has_task true rule = is_faillock rule && counts_by rule.arguments
has_task false rule = is_faillock rule && not (counts_by rule.arguments)

-- no run asks a module with this task
abbrev pub NoneWith : Judgement → Bool → Type 0
NoneWith j counts = (number : ℕ) (rule : ModuleText) → module_at number j.items ≡ Some rule → has_task counts rule ≡ true → Member number j.never_asked

-- S22: a rule has one of the tasks, and no run asks a module with the other one
abbrev pub IsHalf : Judgement → Bool → ModuleText → Type 0
IsHalf j counts rule = (has_task counts rule ≡ true) × NoneWith j (not counts)

-- no run asks the module with this number after a module that says who logs in, or never succeeds, and that failed
abbrev pub NoneFailsBefore : Judgement → ℕ → Type 0
NoneFailsBefore j number = (first : ℕ) → SaysWhoLogsIn j.failing first → Leads (may_answer j.free) j.items failures first number → ⊥
