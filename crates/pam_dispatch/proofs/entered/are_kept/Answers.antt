use Rattle.std.proofs.Common.{◌∙◌, Bool, ap, arith, cond, get_or, min}
use Rattle.pam_dispatch.specs.declared.entered.TheConstants.{LISTS}
use Rattle.pam_dispatch.specs.State.{start_state}
use Rattle.pam_dispatch.proofs.EqualRests.{taken_states-by}
use Rattle.pam_dispatch.proofs.entered.are_kept.Goals as goal

pub returns : goal.returns
returns c rest read is =
    let states = c.args.states.now in
    taken_states-by rest (min c.args.count LISTS) states c.args.kept.now (omega arith)
    (λ l few small. c.loop-level.invariant l (omega (arith, few, c.min-level-end.ensures, c.loop-level-test.false))
    ∙ ap (λ (b : Bool). cond b (get_or states l start_state) start_state) (read.each l (omega (arith, small))))
