use Rattle.std.proofs.Common.{◌≡◌, ◌∙◌, ℕ, arith, false, true, map, subst, sym}
use Rattle.pam_findings.proofs.StackProofs.CanPass.{new-code, new-none}
use Rattle.pam_conf.specs.ListedText.{listed_text}
use Rattle.pam_findings.proofs.HostProofs.Jumping.{lands-at, lands-by, lands-more, lands-none, lands-one}
use Rattle.pam_findings.proofs.host.inside.control_lands.Goals.{in-Some+else-action_lands, in_default}
use Rattle.pam_findings.proofs.host.inside.control_lands.Goals as goal

pub returns-then-action_lands : goal.returns-then-action_lands
returns-then-action_lands c =
    let own = listed_text c.args.own.now in
    let rest = map listed_text c.args.rest.now in
    let is : c.in-Some.code ≡ c.loop-number.number = new-code c.loop-number.number c.in-Some.code (sym c.in-Some.is ∙ c.new.ensures) in
    sym (lands-one own rest c.args.control.now c.in-Some.code (omega (arith, is, c.loop-number-test.true))
    (lands-by own rest c.args.control.now c.in-Some.code c.action.result true c.action.ensures.of_code
    (sym c.action_lands.ensures ∙ c.if-action_lands.true)))

pub loop-number-preserved : goal.loop-number-preserved
loop-number-preserved c =
    let number = c.loop-number.number in
    let own = listed_text c.args.own.now in
    let rest = map listed_text c.args.rest.now in
    let control = c.args.control.now in
    let here : lands-at own rest control number ≡ false = elim c.match-new.branch [
      | in-Some+else-action_lands w ↦
          let is = new-code number w.in-Some.code (sym w.in-Some.is ∙ c.new.ensures) in
          subst (λ (n : ℕ). lands-at own rest control n ≡ false) is
          (lands-by own rest control w.in-Some.code w.action.result false w.action.ensures.of_code (sym w.action_lands.ensures ∙ w.if-action_lands.false))
      | in_default w ↦ absurd (new-none number c.loop-number-test.true (sym w.in_default.is ∙ c.new.ensures))
    ] in
    λ code l. lands-more own rest control number code c.loop-number.invariant here l

pub returns : goal.returns
returns c =
    sym (lands-none (listed_text c.args.own.now) (map listed_text c.args.rest.now) c.args.control.now
    (λ code l. c.loop-number.invariant code (omega (arith, l, c.loop-number-test.false))))
