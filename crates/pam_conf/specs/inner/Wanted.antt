-- For private contracts and proofs alone: the rules that a reader of a file wants: pam.conf(5), on "service" and "type".
use Rattle.std.specs.Prelude.{ℕ, Bool, true, ◌||◌, codes, List, [], ◌∷◌, ◌++◌, filter, Option, Some, None, Result, Ok, Err}
use Rattle.pam_conf.specs.inner.Progress.{of_kind, only}
use Rattle.pam_conf.specs.Rule.{RuleText}
use Rattle.pam_conf.specs.Walk.{carries, is_of_kind}
use Rattle.pam_conf.specs.declared.error.RuleFault.{RuleFault}
use Rattle.pam_conf.specs.declared.rule.Kind.{Kind}
use Rattle.pam_conf.specs.declared.rule.Kind.TheVariants.{Auth, Account, Password, Session}
use Rattle.pam_conf.specs.declared.wanted.Wanted.{Wanted}
use Rattle.pam_conf.specs.declared.wanted.Wanted.TheVariants.{All, OfKind, OfServices}

abbrev pub wants : Wanted → RuleText → Bool
wants All rule = true
wants (OfKind kind) rule = is_of_kind kind rule
wants (OfServices service other) rule = carries service.now rule || carries other.now rule

abbrev pub only_wanted : Wanted → Result (List RuleText) RuleFault → Result (List RuleText) RuleFault
only_wanted All rules = rules
only_wanted (OfKind kind) rules = of_kind kind rules
only_wanted wanted rules = only (wants wanted) rules

-- rules, followed by the rule of one more line, if it has one and it is wanted
abbrev pub with_rule : Wanted → List RuleText → Result (Option RuleText) RuleFault → Result (List RuleText) RuleFault
with_rule wanted rules (Err fault) = Err fault
with_rule wanted rules (Ok None) = Ok rules
with_rule wanted rules (Ok (Some rule)) = Ok (rules ++ filter (wants wanted) (rule ∷ []))

-- the name of a kind, as most files write it
abbrev pub kind_name : Kind → List ℕ
kind_name Auth = codes "auth"
kind_name Account = codes "account"
kind_name Password = codes "password"
kind_name Session = codes "session"
