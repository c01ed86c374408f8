use Rattle.std.proofs.Common.{◌≡◌, ◌<◌, ◌≤◌, ◌+◌, ◌∙◌, Bool, List, ℕ, ap, arith, cond, false, get_or, length, min, slice_set, subst, sym}
use Rattle.std.proofs.lemmas.List.{length-set}
use Rattle.pam_dispatch.specs.declared.entered.TheConstants.{LISTS}
use Rattle.pam_dispatch.specs.declared.state.State.{State}
use Rattle.pam_dispatch.specs.State.{start_state}
use Rattle.pam_dispatch.proofs.EqualRests.{taken_states-by}
use Rattle.pam_dispatch.proofs.ReadTables.{after-cleared, before-cleared, before-kept}
use Rattle.pam_dispatch.proofs.entered.keep_levels.Goals as goal
use Rattle.pam_dispatch.proofs.entered.keep_levels.Goals.{then-not-levels-level, else-not-levels-level}

pub loop-level-preserved : goal.loop-level-preserved
loop-level-preserved c =
    let i = c.loop-level.invariant in
    let at = c.loop-level.level in
    let levels = c.args.levels.now in
    let old = c.args.states.now in
    let now = c.loop-level.states in
    let Kept : List State → Type 0 = λ states. record {
      long : length states ≡ 16;
      same : length old ≡ 16;
      before : (n : ℕ) → n < at + 1 → get_or states n start_state ≡ cond (get_or levels n false) (get_or old n start_state) start_state;
      after : (n : ℕ) → at + 1 ≤ n → get_or states n start_state ≡ get_or old n start_state;
    } in
    elim c.if-not-levels-level.branch [
      | then-not-levels-level w ↦
          subst Kept (sym (w.states-is ∙ ap (λ (s : State). slice_set now at s) w.start.ensures)) record {
            long = length-set now at start_state ∙ i.long;
            same = i.same;
            before = before-cleared levels old now at i.before w.if-not-levels-level.true
                (omega (arith, i.long, c.min-level-end.ensures, c.loop-level-test.true));
            after = after-cleared levels old now at i.after;
          }
      | else-not-levels-level w ↦
          subst Kept (sym w.states-is) record {
            long = i.long;
            same = i.same;
            before = before-kept levels old now at i.before i.after w.if-not-levels-level.false;
            after = λ n k. i.after n (omega (arith, k));
          }
    ]

pub returns : goal.returns
returns c rest read =
    let i = c.loop-level.invariant in
    taken_states-by rest (min c.args.count LISTS) c.args.states.now c.loop-level.states (omega (arith, i.long, i.same))
    (λ l few small. i.before l (omega (arith, few, c.min-level-end.ensures, c.loop-level-test.false))
    ∙ ap (λ (b : Bool). cond b (get_or c.args.states.now l start_state) start_state) (read.each l (omega (arith, small, i.same))))
