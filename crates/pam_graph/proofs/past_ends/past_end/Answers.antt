use Rattle.std.proofs.Common.{◌≡◌, ◌&&◌, ◌==◌, ◌||◌, ◌∙◌, Bool, Some, ap, arith, sym, ℕ}
use Rattle.std.proofs.lemmas.Bool.{cond-true, lt-ltb}
use Rattle.std.proofs.lemmas.Option.{none-some, same_Some}
use Rattle.pam_codes.specs.Set.{codes_where, is_in}
use Rattle.pam_codes.proofs.CodeByCode.{all_passed, none_passed, passed_over, put_in}
use Rattle.pam_dispatch.specs.State.{action_of}
use Rattle.pam_graph.specs.PastEnds.{is_past_end}
use Rattle.pam_graph.proofs.past_ends.past_end.Goals.{in-Some+then-passes, in-Some+else-passes, in_default}
use Rattle.pam_graph.proofs.past_ends.past_end.Goals as goal

pub loop-number-init : goal.loop-number-init
loop-number-init c = none_passed _ _ c.empty-codes.ensures

pub loop-number-preserved : goal.loop-number-preserved
loop-number-preserved c =
    let l = c.loop-number in
    let test : ℕ → Bool = λ code. is_in code c.args.allowed && is_past_end c.args.items_after (action_of c.args.control.now code) in
    let new : c.new.result ≡ Some l.number = c.new.ensures ∙ cond-true _ _ _ (lt-ltb l.number 31 c.loop-number-test.true) in
    elim c.match-new.branch [
      | in-Some+then-passes w ↦
          let same : l.number ≡ w.in-Some.code = same_Some l.number w.in-Some.code (sym new ∙ w.in-Some.is) in
          put_in test l.number l.codes _ (ap test same ∙ sym w.passes.ensures ∙ w.if-passes.true) l.invariant
          (w.codes-is ∙ w.insert.ensures ∙ ap (λ (n : ℕ). codes_where (λ x. x == n || is_in x l.codes)) (sym same))
      | in-Some+else-passes w ↦
          let same : l.number ≡ w.in-Some.code = same_Some l.number w.in-Some.code (sym new ∙ w.in-Some.is) in
          w.codes-is ∙ l.invariant ∙ passed_over test l.number (ap test same ∙ sym w.passes.ensures ∙ w.if-passes.false)
      | in_default w ↦ absurd (none-some l.number (sym w.in_default.is ∙ new))
    ]

pub returns : goal.returns
returns c = c.loop-number.invariant ∙ all_passed _ c.loop-number.number (omega (arith, c.loop-number-test.false))
