use Rattle.std.proofs.Common.{◌==◌, ◌||◌, ◌∙◌, Bool, ap, sym, arith, get_or, ℕ}
use Rattle.std.proofs.lemmas.Option.{get_or_from_slice_get}
use Rattle.pam_codes.specs.declared.action.Action.{Action}
use Rattle.pam_codes.specs.declared.action.Action.TheVariants.{Ignore}
use Rattle.pam_codes.specs.Action.{same_action}
use Rattle.pam_codes.specs.Set.{codes_where, is_in}
use Rattle.pam_codes.proofs.CodeByCode.{none_passed, all_passed, passed_over, put_in}
use Rattle.pam_codes.proofs.control.Control.codes_with.Goals as goal
use Rattle.pam_codes.proofs.control.Control.codes_with.Goals.{then-is_same, else-is_same}

pub loop-number-init : goal.loop-number-init
loop-number-init c = none_passed _ _ c.empty-codes.ensures

pub loop-number-preserved : goal.loop-number-preserved
loop-number-preserved c =
    let l = c.loop-number in
    let acts : ℕ → Bool = λ x. same_action (get_or c.args.self.now x Ignore) c.args.action in
    let at = get_or_from_slice_get c.args.self.now l.number c.action.result Ignore (rw c.of_number-code.ensures at c.action.ensures.of_code) in
    let same = c.is_same.ensures ∙ ap (λ (a : Action). same_action a c.args.action) (sym at) in
    elim c.if-is_same.branch [
      | then-is_same w ↦
          put_in acts l.number l.codes _ (sym same ∙ w.if-is_same.true) l.invariant
          (w.codes-is ∙ w.insert.ensures ∙ ap (λ (n : ℕ). codes_where (λ x. x == n || is_in x l.codes)) c.of_number-code.ensures)
      | else-is_same w ↦ w.codes-is ∙ l.invariant ∙ passed_over acts l.number (sym same ∙ w.if-is_same.false)
    ]

pub returns : goal.returns
returns c = c.loop-number.invariant ∙ all_passed _ c.loop-number.number (omega (arith, c.loop-number-test.false))
