-- the values are those of the folders so far
use Rattle.std.proofs.Common.{map, string_bytes, take}
use Rattle.serde_json.specs.View.{view}
use Rattle.pam_lsp.specs.Checks.{AreLines}
use Rattle.pam_lsp.proofs.checking.lines_of.Given as goal

abbrev pub invariant-loop-folder : goal.invariant-loop-folder
invariant-loop-folder g l = AreLines (g.S.System.told l.system) (map string_bytes (take l.folder-index l.folders)) (map view l.values.items)
