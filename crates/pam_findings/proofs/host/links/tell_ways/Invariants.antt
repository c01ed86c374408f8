use Rattle.std.proofs.Common.{◌≡◌, ◌++◌, map, take, drop}
use Rattle.pam_findings.specs.host.Links.{told_way}
use Rattle.pam_findings.proofs.host.links.tell_ways.Given as goal

-- the ways so far are told or taken away
abbrev pub invariant-loop-way : goal.invariant-loop-way
invariant-loop-way l = l.ways ≡ map (told_way l.outside) (take l.way-index l.initial.ways) ++ drop l.way-index l.initial.ways
