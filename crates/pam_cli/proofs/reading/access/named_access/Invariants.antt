-- the tables so far are read
use Rattle.std.proofs.Common.{map, take}
use Rattle.pam_cli.specs.AccessTables.{AreNamed}
use Rattle.pam_cli.proofs.reading.access.named_access.Given as goal

abbrev pub invariant-loop-name : goal.invariant-loop-name
invariant-loop-name g l = AreNamed (g.S.System.told l.fn.system) (map (λ n. n.now) (take l.name-index l.names)) l.tables
