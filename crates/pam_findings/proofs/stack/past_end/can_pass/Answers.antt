use Rattle.std.proofs.Common.{◌≡◌, ◌∙◌, ℕ, arith, false, subst, sym}
use Rattle.pam_findings.proofs.StackProofs.CanPass.{new-code, new-none, none-more, not-among, not-past, passes-at, passes-none, passes-one}
use Rattle.pam_findings.proofs.stack.past_end.can_pass.Goals.{in-Some+else-contains, in_default}
use Rattle.pam_findings.proofs.stack.past_end.can_pass.Goals.{else-contains-via-then-contains+else-is_past_end, else-contains-via-else-contains}
use Rattle.pam_findings.proofs.stack.past_end.can_pass.Goals as goal

pub returns-then-is_past_end : goal.returns-then-is_past_end
returns-then-is_past_end c =
    let is : c.in-Some.code ≡ c.loop-number.number = new-code c.loop-number.number c.in-Some.code (sym c.in-Some.is ∙ c.new.ensures) in
    passes-one c.args.control.now c.args.codes c.args.items_after c.in-Some.code c.action.result (omega (arith, is, c.loop-number-test.true))
    (sym c.contains.ensures ∙ c.if-contains.true) c.action.ensures.of_code (sym c.is_past_end.ensures ∙ c.if-is_past_end.true)

pub loop-number-preserved : goal.loop-number-preserved
loop-number-preserved c =
    let number = c.loop-number.number in
    let at = passes-at c.args.control.now c.args.codes c.args.items_after in
    let here : at number ≡ false = elim c.match-new.branch [
      | in-Some+else-contains w ↦
          let is = new-code number w.in-Some.code (sym w.in-Some.is ∙ c.new.ensures) in
          subst (λ (n : ℕ). at n ≡ false) is (elim w.else-contains.branch [
            | else-contains-via-then-contains+else-is_past_end x ↦
                not-past c.args.control.now c.args.codes c.args.items_after w.in-Some.code x.action.result x.action.ensures.of_code
                (sym x.is_past_end.ensures ∙ x.if-is_past_end.false)
            | else-contains-via-else-contains x ↦
                not-among c.args.control.now c.args.codes c.args.items_after w.in-Some.code (sym w.contains.ensures ∙ x.if-contains.false)
          ])
      | in_default w ↦ absurd (new-none number c.loop-number-test.true (sym w.in_default.is ∙ c.new.ensures))
    ] in
    λ code l. none-more c.args.control.now c.args.codes c.args.items_after number code c.loop-number.invariant here l

pub returns : goal.returns
returns c =
    passes-none c.args.control.now c.args.codes c.args.items_after
    (λ code l. c.loop-number.invariant code (omega (arith, l, c.loop-number-test.false)))
