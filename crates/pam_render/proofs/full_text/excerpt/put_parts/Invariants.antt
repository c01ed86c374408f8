-- the parts so far are written
use Rattle.std.proofs.Common.{take}
use Rattle.std.specs.List.{flat_map}
use Rattle.pam_codes.specs.Out.{TookAll}
use Rattle.pam_render.specs.full_text.inner.Views.{part_text}
use Rattle.pam_render.proofs.full_text.excerpt.put_parts.Given as goal

abbrev pub invariant-loop-part : goal.invariant-loop-part
invariant-loop-part g l = TookAll g.W.Write.contents l.initial.out l.out (flat_map part_text (take l.part-index l.parts))
