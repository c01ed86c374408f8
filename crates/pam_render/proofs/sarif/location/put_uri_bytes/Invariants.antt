-- the bytes so far are written
use Rattle.std.proofs.Common.{take}
use Rattle.std.specs.List.{flat_map}
use Rattle.pam_text.specs.Out.{TookAll}
use Rattle.pam_render.proofs.SarifProofs.Uris.{escaped}
use Rattle.pam_render.proofs.sarif.location.put_uri_bytes.Given as goal

abbrev pub invariant-loop-byte : goal.invariant-loop-byte
invariant-loop-byte g l = TookAll g.W.Write.contents l.initial.out l.out (flat_map escaped (take l.byte-index l.path))
