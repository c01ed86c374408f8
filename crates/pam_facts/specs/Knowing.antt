-- The arguments of which rows say that a module knows them.
use Rattle.std.specs.Prelude.{ℕ, ◌&&◌, Bool, true, false, List}
use Rattle.std.specs.List.{list_any}
use Rattle.std.specs.Option.{option_map_or}
use Rattle.std.specs.Str.{bytes_eq}
use Rattle.pam_conf.specs.Stack.{ModuleText}
use Rattle.pam_conf.specs.declared.rule.Kind.{Kind}
use Rattle.pam_facts.specs.Fitting.{argument_fits}
use Rattle.pam_facts.specs.Kinds.{has_kind}
use Rattle.pam_facts.specs.Paths.{module_name}
use Rattle.pam_facts.specs.Rows.{Row}
use Rattle.pam_facts.specs.arguments.Verdicts.{Meaning, Module, meaning}
use Rattle.pam_facts.specs.arguments.Verdicts.{Known, Longer, OtherKind, BadValue, Unknown}

-- a row says that the module of this name knows a word of a rule of this kind
abbrev pub says_known : List ℕ → Kind → List ℕ → Row → Bool
says_known name kind word row =
    bytes_eq row.name name && (option_map_or (has_kind kind) row.knows false && list_any (λ wanted. argument_fits wanted word) row.arguments)

-- A WORD IS KNOWN to the module at a path, since some row says so
abbrev pub is_known : List Row → List ℕ → Kind → List ℕ → Bool
is_known rows path kind word = option_map_or (λ name. list_any (says_known name kind word) rows) (module_name path) false

-- a word that is known is not unknown, and none of another kind or with a wrong value; but one that stores passwords weakly still does
abbrev pub where_known : Bool → Meaning → Meaning
where_known true (Longer argument) = Known
where_known true OtherKind = Known
where_known true (BadValue form) = Known
where_known true (Unknown reaction) = Known
where_known known meaning = meaning

-- WHAT THE MODULE of a rule makes of a word, where this is known of its arguments
abbrev pub meaning_of : List Row → Kind → ModuleText → Module → List ℕ → Meaning
meaning_of rows kind rule known word = where_known (is_known rows rule.path kind word) (meaning known kind word)
