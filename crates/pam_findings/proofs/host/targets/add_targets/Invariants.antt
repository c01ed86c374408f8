use Rattle.std.proofs.Common.{◌≡◌, ◌||◌, ℕ, List, drop, map}
use Rattle.std.specs.List.{list_any}
use Rattle.std.specs.Str.{bytes_eq}
use Rattle.pam_conf.specs.Rule.{rule_view}
use Rattle.pam_conf.specs.Targets.{names_target}
use Rattle.pam_findings.proofs.host.targets.add_targets.Given as goal

-- the names so far, and those of the rules that are left
abbrev pub invariant-loop-rule : goal.invariant-loop-rule
invariant-loop-rule l =
    (name : List ℕ) → (list_any (bytes_eq name) l.names || list_any (names_target name) (map rule_view (drop l.rule-index l.rules)))
    ≡ (list_any (bytes_eq name) l.initial.names || list_any (names_target name) (map rule_view l.rules))
