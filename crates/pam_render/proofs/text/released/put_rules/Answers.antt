use Rattle.std.proofs.Common.{◌+◌, drop, map, ap}
use Rattle.std.specs.List.{flat_map}
use Rattle.pam_codes.proofs.Writing.{err-front, front-is, front-longer, front-then}
use Rattle.pam_render.proofs.TextProofs.ShowTexts.{flat_map-viewed_at}
use Rattle.pam_render.specs.text.Released.{rule_line}
use Rattle.pam_released.specs.Readings.{numbered_view}
use Rattle.pam_released.specs.declared.reading.NumberedReading.{NumberedReading}
use Rattle.pam_render.proofs.text.released.put_rules.Goals as goal

pub returns-in_err-put_rule_line : goal.returns-in_err-put_rule_line
returns-in_err-put_rule_line g c =
    let rules = c.args.rules.now in
    let index = c.loop-rule.rule-index in
    let line = rule_line c.args.file.now in
    let text = ap (λ (rule : NumberedReading). line (numbered_view rule)) c.rule-item.is in
    err-front _ c.from_residual.ensures.0
    (front-is
    (front-longer (flat_map line (map numbered_view (drop (index + 1) rules)))
    (front-then c.loop-rule.invariant (front-is c.in_err-put_rule_line.ensures text)))
    (flat_map-viewed_at line numbered_view rules index _ c.loop-rule-test.true))
