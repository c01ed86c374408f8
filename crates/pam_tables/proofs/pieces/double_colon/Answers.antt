use Rattle.std.proofs.Common.{◌∙◌, sym}
use Rattle.pam_tables.specs.Address.{double_colon}
use Rattle.pam_tables.proofs.PieceSteps.{after_start, colon_found, colon_miss, colon_end}
use Rattle.pam_tables.proofs.pieces.double_colon.Goals as goal

pub loop-place-init : goal.loop-place-init
loop-place-init c = after_start c.args.text.now (double_colon c.args.text.now)

pub returns-then-starts_with : goal.returns-then-starts_with
returns-then-starts_with c =
    colon_found c.loop-place.place c.args.text.now _ _ _ c.loop-place-test.true c.split_at.ensures.front c.split_at.ensures.back
    (sym c.starts_with.ensures.value ∙ c.if-starts_with.true) c.split_at-then-starts_with.ensures.back ∙ c.loop-place.invariant

pub loop-place-preserved : goal.loop-place-preserved
loop-place-preserved c =
    colon_miss c.loop-place.place c.args.text.now c.loop-place-test.true
    (rw c.split_at.ensures.back at (sym c.starts_with.ensures.value ∙ c.if-starts_with.false)) ∙ c.loop-place.invariant

pub returns : goal.returns
returns c = colon_end c.loop-place.place c.args.text.now c.loop-place-test.false ∙ c.loop-place.invariant
