use Rattle.std.proofs.Common.{◌≡◌, ◌++◌, drop, map}
use Rattle.pam_conf.specs.ListedText.{listed_text}
use Rattle.pam_findings.specs.host.Inside.{jumping}
use Rattle.pam_findings.specs.host.inner.Insides.{jump_spot}
use Rattle.pam_findings.proofs.host.inside.push_jumping.Given as goal

-- the spots so far, and those of the items that are left
abbrev pub invariant-loop-at : goal.invariant-loop-at
invariant-loop-at l =
    l.spots.items ++ map jump_spot (jumping (map listed_text (drop l.at l.items)))
    ≡ l.initial.spots.items ++ map jump_spot (jumping (map listed_text l.items))
