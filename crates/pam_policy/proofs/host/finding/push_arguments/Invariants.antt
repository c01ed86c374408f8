use Rattle.std.proofs.Common.{◌≡◌, ◌++◌, drop, filter_map, map}
use Rattle.pam_policy.specs.host.Findings.{finding_view, of_argument}
use Rattle.pam_policy.specs.names.Words.{misnamed_view}
use Rattle.pam_policy.proofs.host.finding.push_arguments.Given as goal

-- the findings so far, and those of the words that are left
abbrev pub invariant-loop-word : goal.invariant-loop-word
invariant-loop-word l =
    map finding_view l.found.items ++ filter_map of_argument (map misnamed_view (drop l.word-index l.words))
    ≡ map finding_view l.initial.found.items ++ filter_map of_argument (map misnamed_view l.words)
