use Rattle.std.proofs.Common.{◌≡◌, ◌++◌, take}
use Rattle.std.specs.List.{flat_map}
use Rattle.pam_conf.specs.Rule.{rule_view}
use Rattle.pam_findings.specs.host.inner.Own.{vendor_spots}
use Rattle.pam_findings.proofs.host.vendor.push_rules.Given as goal

-- those of the rules so far are added
abbrev pub invariant-loop-rule : goal.invariant-loop-rule
invariant-loop-rule l =
    l.spots.items ≡ l.initial.spots.items ++ flat_map (λ rule. vendor_spots l.fn.files l.vendor_start l.file (rule_view rule)) (take l.rule-index l.rules)
