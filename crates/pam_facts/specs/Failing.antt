-- Modules that always fail, since they do not take their arguments: the manual page of each module.
use Rattle.std.specs.Prelude.{ℕ, ◌||◌, Bool, true, false, not, List, [], ◌∷◌}
use Rattle.std.specs.List.{list_any}
use Rattle.std.specs.Option.{option_map_or}
use Rattle.pam_codes.specs.Code.{ignored, new_authtok_reqd, success}
use Rattle.pam_codes.specs.Set.{codes_where, is_in}
use Rattle.pam_conf.specs.Stack.{ModuleText}
use Rattle.pam_conf.specs.declared.rule.Kind.{Kind}
use Rattle.pam_conf.specs.declared.rule.Kind.TheVariants.{Password}
use Rattle.pam_facts.specs.Knowing.{meaning_of}
use Rattle.pam_facts.specs.Rows.{Row}
use Rattle.pam_facts.specs.arguments.Calls.{known_of, lack_in}
use Rattle.pam_facts.specs.arguments.Verdicts.{Meaning, Module}
use Rattle.pam_facts.specs.arguments.Verdicts as meanings
use Rattle.pam_facts.specs.declared.arguments.lacks.Lack.{Lack}
use Rattle.pam_facts.specs.declared.arguments.lacks.Lack.TheVariants as lacks
use Rattle.pam_facts.specs.declared.arguments.verdict.Reaction.TheVariants.{Fails}

-- the module does not know the argument, and then fails
abbrev pub is_refused : Meaning → Bool
is_refused (meanings.Unknown Fails) = true
is_refused meaning = false

abbrev pub refuses_one : List Row → Kind → ModuleText → Module → Bool
refuses_one rows kind rule known = list_any (λ word. is_refused (meaning_of rows kind rule known word)) rule.arguments

-- pam_listfile(8) answers as its argument `onerr=` says, and pam_exec(8) runs nothing in the first pass of `password`, where it
-- succeeds whatever its arguments are
abbrev pub fails_by_lack : Kind → Lack → Bool
fails_by_lack kind lacks.List = false
fails_by_lack Password lacks.Program = false
fails_by_lack kind lack = true

-- A MODULE ALWAYS FAILS by what its arguments are
unfoldable pub always_fails : List Row → Kind → ModuleText → Bool
always_fails rows kind rule =
    option_map_or (fails_by_lack kind) (lack_in kind rule) false || option_map_or (refuses_one rows kind rule) (known_of rule) false

-- the answers with which a required module does not let go on
abbrev pub failures : List ℕ
failures = codes_where (λ code. not (is_in code (success ∷ new_authtok_reqd ∷ ignored ∷ [])))
