use Rattle.std.proofs.Common.{◌≡◌, ◌||◌, ℕ, List, drop}
use Rattle.std.specs.List.{list_any}
use Rattle.std.specs.Str.{bytes_eq}
use Rattle.pam_conf.specs.FileRules.{good_rules}
use Rattle.pam_conf.specs.Targets.{is_target, names_target}
use Rattle.pam_findings.proofs.host.targets.target_names.Given as goal

-- the names so far, and those of the files that are left
abbrev pub invariant-loop-position : goal.invariant-loop-position
invariant-loop-position l =
    (name : List ℕ) →
    (list_any (bytes_eq name) l.names || list_any (λ f. list_any (names_target name) (good_rules l.rules.form f.1)) (drop l.position l.rules.entries))
    ≡ is_target l.rules name
