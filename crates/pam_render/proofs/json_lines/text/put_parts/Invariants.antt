-- the parts so far are written
use Rattle.std.proofs.Common.{take}
use Rattle.std.specs.List.{flat_map}
use Rattle.std.specs.Str.Lossy.{utf8_lossy}
use Rattle.json.specs.Print.{escape}
use Rattle.pam_text.specs.Out.{TookAll}
use Rattle.pam_render.proofs.json_lines.text.put_parts.Given as goal

abbrev pub invariant-loop-part : goal.invariant-loop-part
invariant-loop-part g l =
    TookAll g.W.Write.contents l.initial.out l.out (flat_map (λ part. escape (utf8_lossy part.0.now)) (take l.part-index l.parts))
