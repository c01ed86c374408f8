use Rattle.std.proofs.Common.{◌≡◌, ◌∙◌, ◌+◌, ◌-◌, ap, arith, suc, sym, zero}
use Rattle.pam_lsp.specs.Positions.{line_at}
use Rattle.pam_lsp.proofs.Firsts.{line_at-later}
use Rattle.pam_lsp.proofs.position.line_at.Goals as goal

pub loop-turn-preserved : goal.loop-turn-preserved
loop-turn-preserved c =
    let e : c.args.number - c.loop-turn.turn ≡ suc (c.args.number - (c.loop-turn.turn + 1)) = omega (arith, c.loop-turn-test.true) in
    ap (line_at (c.args.number - (c.loop-turn.turn + 1))) c.after_line_feed-rest.ensures
    ∙ sym (line_at-later _ _ c.loop-turn.rest.now e) ∙ c.loop-turn.invariant

pub returns : goal.returns
returns c =
    let e : c.args.number - c.loop-turn.turn ≡ zero = omega (arith, c.loop-turn-test.false) in
    c.before_line_feed.ensures ∙ ap (λ n. line_at n c.loop-turn.rest.now) (sym e) ∙ c.loop-turn.invariant
