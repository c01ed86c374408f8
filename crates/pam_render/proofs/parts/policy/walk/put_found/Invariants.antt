-- the lines of the findings so far are written
use Rattle.std.proofs.Common.{take}
use Rattle.std.specs.List.{flat_map}
use Rattle.pam_text.specs.Out.{TookAll}
use Rattle.pam_render.specs.parts.Policy.{Found}
use Rattle.pam_render.specs.parts.PolicyView.{host_view, told_view}
use Rattle.pam_render.proofs.parts.policy.walk.put_found.Given as goal

abbrev pub invariant-loop-told : goal.invariant-loop-told
invariant-loop-told g l =
    TookAll g.W.Write.contents l.initial.out l.out
    (flat_map (λ told. g.L.PolicyLines.line (Found (host_view l.host) (told_view told))) (take l.told-index l.found))
