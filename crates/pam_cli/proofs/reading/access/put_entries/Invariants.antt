-- the tables among the entries so far are added
use Rattle.std.proofs.Common.{map, string_bytes, take}
use Rattle.pam_cli.specs.System.{place_view}
use Rattle.pam_cli.specs.inner.AccessTables.{AddsEntries}
use Rattle.pam_cli.proofs.reading.access.put_entries.Given as goal

abbrev pub invariant-loop-name : goal.invariant-loop-name
invariant-loop-name g l =
    AddsEntries (g.S.System.told l.fn.system) (place_view l.fn.folder) (map string_bytes (take l.name-index l.names)) l.initial.tables l.tables
