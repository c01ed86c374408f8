-- What is known of the arguments of a rule.
use Rattle.std.specs.Prelude.{ℕ, Option}
use Rattle.std.specs.Option.{option_and_then}
use Rattle.pam_conf.specs.Stack.{ModuleText}
use Rattle.pam_conf.specs.declared.rule.Kind.{Kind}
use Rattle.pam_facts.specs.Paths.{module_name}
use Rattle.pam_facts.specs.arguments.Lacks.{lack_of}
use Rattle.pam_facts.specs.arguments.Table.{module_named}
use Rattle.pam_facts.specs.arguments.Verdicts.{Module}
use Rattle.pam_facts.specs.declared.arguments.lacks.Lack.{Lack}

-- what is known of the arguments of a rule's module; of one whose path leads to no module of the system, nothing
abbrev pub known_of : ModuleText → Option Module
known_of rule = option_and_then module_named (module_name rule.path)

-- WHAT THE ARGUMENTS OF A RULE LACK as a whole; of a module whose path leads to none of the system, nothing is known
abbrev pub lack_in : Kind → ModuleText → Option Lack
lack_in kind rule = option_and_then (λ name. lack_of name kind rule.arguments) (module_name rule.path)
