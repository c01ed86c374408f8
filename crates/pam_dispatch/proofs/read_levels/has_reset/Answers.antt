use Rattle.std.proofs.Common.{◌≡◌, ◌∙◌, List, Some, ap, arith, false, sym}
use Rattle.std.specs.List.{list_any}
use Rattle.std.proofs.lemmas.Bool.{cond-true, lt-ltb}
use Rattle.std.proofs.lemmas.List.{take_all}
use Rattle.std.proofs.lemmas.Option.{none-some, same_Some}
use Rattle.pam_codes.specs.declared.action.Action.{Action}
use Rattle.pam_dispatch.specs.Representatives.{is_reset}
use Rattle.pam_dispatch.proofs.ReadTables.{reset-at, resets-more}
use Rattle.pam_dispatch.proofs.read_levels.has_reset.Goals as goal
use Rattle.pam_dispatch.proofs.read_levels.has_reset.Goals.{in-Some+else-is_reset, in_default}

pub returns-then-is_reset : goal.returns-then-is_reset
returns-then-is_reset c =
    sym (reset-at c.args.control.now c.in-Some.code c.action.result c.action.ensures.of_code (sym c.is_reset.ensures ∙ c.if-is_reset.true))

pub loop-number-preserved : goal.loop-number-preserved
loop-number-preserved c =
    let control = c.args.control.now in
    let number = c.loop-number.number in
    let new : c.new.result ≡ Some number = c.new.ensures ∙ cond-true _ _ _ (lt-ltb number 31 c.loop-number-test.true) in
    elim c.match-new.branch [
      | in-Some+else-is_reset w ↦
          let same : number ≡ w.in-Some.code = same_Some number w.in-Some.code (sym new ∙ w.in-Some.is) in
          resets-more control number w.action.result c.loop-number.invariant
          (ap (λ n. Rattle.std.proofs.Common.slice_get control n) same ∙ w.action.ensures.of_code)
          (sym w.is_reset.ensures ∙ w.if-is_reset.false)
      | in_default w ↦ absurd (none-some number (sym w.in_default.is ∙ new))
    ]

pub returns : goal.returns
returns c =
    let control = c.args.control.now in
    let long = c.action-action.ensures.control.one_each in
    sym (ap (λ (l : List Action). list_any is_reset l) (sym (take_all c.loop-number.number control (omega (arith, long, c.loop-number-test.false))))
    ∙ c.loop-number.invariant)
