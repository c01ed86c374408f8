-- the values that there were, and those of the lines so far
use Rattle.std.proofs.Common.{◌≡◌, ◌++◌, map}
use Rattle.std.specs.List.{flat_map}
use Rattle.serde_json.specs.View.{view}
use Rattle.pam_lsp.specs.Findings.{values_in}
use Rattle.pam_lsp.proofs.finding.push_values.Given as goal

abbrev pub invariant-loop-line : goal.invariant-loop-line
invariant-loop-line l =
    map view l.values.items ≡ map view l.initial.values.items ++ flat_map values_in (map (λ line. line.now) l.yielded)
