use Rattle.std.proofs.Common.{◌∙◌, ap}
use Rattle.pam_released.specs.tables.inner.Pieces.{filled_after}
use Rattle.pam_released.proofs.TablesProofs.LastLine.{all_read, ends_so, piece_read}
use Rattle.pam_released.proofs.tables.last_line.ends_in_rule.Goals as goal

pub loop-line-preserved : goal.loop-line-preserved
loop-line-preserved c =
    piece_read c.loop-line.is_filled _ _ c.loop-line.rest.now c.in-Some.line.now c.in-Some.after.now c.in-Some.ensures.value
    (c.filled_after-is_filled.ensures ∙ ap (λ t. filled_after c.loop-line.is_filled t) c.before_hash.ensures) c.loop-line.invariant

pub returns : goal.returns
returns c =
    c.is_filled_by.ensures ∙ all_read c.loop-line.is_filled _ c.loop-line.rest.now c.in_default.ensures.value c.loop-line.invariant
    ∙ ends_so c.manual_lines.ensures c.args.bytes.now
