-- The arguments of a rule that its module does not take as they are written: the manual page of each module.
use Rattle.std.specs.Prelude.{ℕ, List, Option, Some, None, slice_get}
use Rattle.std.specs.Option.{option_and_then}
use Rattle.pam_facts.specs.Knowing.{meaning_of}
use Rattle.pam_facts.specs.Rows.{Row}
use Rattle.pam_facts.specs.arguments.Calls.{known_of}
use Rattle.pam_facts.specs.arguments.Verdicts.{Meaning, Module}
use Rattle.pam_facts.specs.arguments.Verdicts as meanings
use Rattle.pam_conf.specs.Stack.{ModuleText}
use Rattle.pam_conf.specs.declared.rule.Kind.{Kind}
use Rattle.pam_findings.specs.declared.host.problem.ArgumentProblem.{ArgumentProblem}
use Rattle.pam_findings.specs.declared.host.problem.ArgumentProblem.TheVariants.{BadValue, Longer, OtherKind, Unknown, Weak}

-- what is wrong with an argument of which its module makes this
abbrev pub wrong_by : Meaning → Option ArgumentProblem
wrong_by meanings.Known = None
wrong_by meanings.Free = None
wrong_by (meanings.Unknown reaction) = Some (Unknown reaction)
wrong_by (meanings.Longer argument) = Some Longer
wrong_by meanings.OtherKind = Some OtherKind
wrong_by (meanings.BadValue form) = Some BadValue
wrong_by meanings.Weak = Some Weak

-- what is wrong with the argument at a position, from 0, where this is known of the module
abbrev pub wrong_at : List Row → Option Module → Kind → ModuleText → ℕ → Option ArgumentProblem
wrong_at rows known kind rule position =
    option_and_then (λ m. option_and_then (λ word. wrong_by (meaning_of rows kind rule m word)) (slice_get rule.arguments position)) known

-- S15 TO S18, AND S23: WHAT IS WRONG with the argument of a rule at a position, from 0
abbrev pub wrong_argument : List Row → Kind → ModuleText → ℕ → Option ArgumentProblem
wrong_argument rows kind rule position = wrong_at rows (known_of rule) kind rule position
