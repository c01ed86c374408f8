-- Modules of which nothing is known.
use Rattle.std.specs.Prelude.{◌≡◌, false, None}
use Rattle.pam_conf.specs.Stack.{ModuleText}
use Rattle.pam_conf.specs.declared.rule.Kind.{Kind}
use Rattle.pam_conf.specs.declared.rule.Kind.TheVariants.{Auth}
use Rattle.pam_facts.specs.Fitting.{has_row}
use Rattle.pam_facts.specs.arguments.Calls.{known_of}
use Rattle.pam_findings.specs.host.Modules.{Modules}
use Rattle.pam_findings.specs.host.Verdicts.{is_missing}

-- S25: a module of `auth` that is there, as far as is known, and of which nothing is known: no row of the facts fits, so that it is taken
-- for one that checks who logs in, and can answer any code; and nothing is known of its arguments
abbrev pub IsUnknown : Modules → Kind → ModuleText → Type 0
IsUnknown modules kind rule =
    (kind ≡ Auth) × (is_missing modules rule ≡ false) × (has_row modules.facts rule.path rule.arguments ≡ false) × (known_of rule ≡ None)
