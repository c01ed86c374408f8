use Rattle.std.proofs.Common.{◌∙◌, ◌+◌, ap, drop, sym}
use Rattle.std.specs.List.{flat_map}
use Rattle.pam_text.proofs.Writing.{all-is, err-front, front-is, front-longer, front-then}
use Rattle.pam_text.proofs.FlatTexts.{flat_map-at, flat_map-seen}
use Rattle.pam_render.specs.declared.parts.policy.told.ToldFinding.{ToldFinding}
use Rattle.pam_render.specs.parts.Policy as spec
use Rattle.pam_render.specs.parts.PolicyView.{host_view, told_view}
use Rattle.pam_render.proofs.SentencesProofs.PolicySentences.{seen-all}
use Rattle.pam_render.proofs.parts.policy.walk.put_found.Goals as goal

pub returns-in_err-put_line : goal.returns-in_err-put_line
returns-in_err-put_line g c =
    let found = c.args.found.now in
    let line = λ (told : spec.ToldFinding). g.L.PolicyLines.line (spec.Found (host_view c.args.host.now) told) in
    let index = c.loop-told.told-index in
    let failed = front-is c.in_err-put_line.ensures (ap (λ (told : ToldFinding). line (told_view told)) c.told-item.is) in
    err-front _ c.from_residual.ensures.0
    (front-is
    (front-longer (flat_map (λ (told : ToldFinding). line (told_view told)) (drop (index + 1) found))
    (front-then c.loop-told.invariant failed))
    (flat_map-at (λ (told : ToldFinding). line (told_view told)) found index _ c.loop-told-test.true ∙ sym (flat_map-seen line told_view found)))

pub returns : goal.returns
returns g c =
    let line = λ (told : spec.ToldFinding). g.L.PolicyLines.line (spec.Found (host_view c.args.host.now) told) in
    all-is c.loop-told.invariant (seen-all line told_view c.args.found.now c.loop-told.told-index c.loop-told-test.false)
