use Rattle.std.proofs.Common.{◌≡◌, ◌∙◌, IfSome, None, arith, length, length-set, refl, sym}
use Rattle.std.proofs.lemmas.List.Elements.{All-replicate, All-set}
use Rattle.pam_codes.specs.Action.{IsAction}
use Rattle.pam_codes.proofs.ControlParts.{some_action}
use Rattle.pam_codes.proofs.Overlay.{actions_after-default, actions_after-incomplete, actions_after-named}
use Rattle.pam_released.proofs.Assembling.{is_nothing, is_something}
use Rattle.pam_released.proofs.ControlReading.{one_pair, told_fault, told_first, told_last}
use Rattle.pam_released.proofs.control.bracket_control.Goals as goal

pub loop-rest-init : goal.loop-rest-init
loop-rest-init c = record {
  few = refl;
  named = All-replicate (λ action. IfSome action IsAction) 31 None tt;
  default = tt;
  left = record {
    fuel = length c.args.inside.now;
    enough = c.after_spaces-rest.ensures.shorter;
    same = told_first c.args.release _ _ _ refl c.after_spaces-rest.ensures.value;
  };
}

pub returns-in_default : goal.returns-in_default
returns-in_default c =
    c.all_bad.ensures ∙ told_fault c.args.release _ _ _ _ _ (is_something _ (sym c.is_empty.ensures ∙ c.loop-rest-test.true)) (sym c.in_default.ensures.value)
    c.loop-rest.invariant.left.same

pub loop-rest-preserved-in-Named : goal.loop-rest-preserved-in-Named
loop-rest-preserved-in-Named c = record {
  few = rw length-set c.loop-rest.invariant.few;
  named = All-set (λ action. IfSome action IsAction) _ _ _ c.in-Some.ensures.action c.loop-rest.invariant.named;
  default = c.loop-rest.invariant.default;
  left =
      one_pair c.args.release _ _ _ _ (c.in-Some.subject, c.in-Some.action) _ _ _ _ (is_something _ (sym c.is_empty.ensures ∙ c.loop-rest-test.true))
      (sym c.in-Some.ensures.value) c.in-Some.ensures.shorter c.after_spaces-rest-in-loop-rest.ensures.value c.after_spaces-rest-in-loop-rest.ensures.shorter
      (λ ps. rw (c.in-Named.is, c.from.ensures, c.number.ensures.value)
      (actions_after-named _ _ _ _ ps (let few : length c.loop-rest.named ≡ 31 = c.loop-rest.invariant.few in omega arith)))
      c.loop-rest.invariant.left;
}

pub loop-rest-preserved-in-Incomplete : goal.loop-rest-preserved-in-Incomplete
loop-rest-preserved-in-Incomplete c = record {
  few = c.loop-rest.invariant.few;
  named = c.loop-rest.invariant.named;
  default = c.loop-rest.invariant.default;
  left =
      one_pair c.args.release _ _ _ _ (c.in-Some.subject, c.in-Some.action) _ _ _ _ (is_something _ (sym c.is_empty.ensures ∙ c.loop-rest-test.true))
      (sym c.in-Some.ensures.value) c.in-Some.ensures.shorter c.after_spaces-rest-in-loop-rest.ensures.value c.after_spaces-rest-in-loop-rest.ensures.shorter
      (λ ps. rw c.in-Incomplete.is (actions_after-incomplete _ _ _ ps)) c.loop-rest.invariant.left;
}

pub loop-rest-preserved : goal.loop-rest-preserved
loop-rest-preserved c = record {
  few = c.loop-rest.invariant.few;
  named = c.loop-rest.invariant.named;
  default = rw c.or-default.ensures (some_action c.loop-rest.default c.in-Some.action c.loop-rest.invariant.default c.in-Some.ensures.action);
  left =
      one_pair c.args.release _ _ _ _ (c.in-Some.subject, c.in-Some.action) _ _ _ _ (is_something _ (sym c.is_empty.ensures ∙ c.loop-rest-test.true))
      (sym c.in-Some.ensures.value) c.in-Some.ensures.shorter c.after_spaces-rest-in-loop-rest.ensures.value c.after_spaces-rest-in-loop-rest.ensures.shorter
      (λ ps. rw (c.in-Default.is, c.or-default.ensures) (actions_after-default _ _ _ ps)) c.loop-rest.invariant.left;
}

pub returns : goal.returns
returns c =
    rw (c.of.ensures, c.unwrap_or.ensures) (told_last c.args.release _ _ _ _ (is_nothing _ (sym c.is_empty.ensures
    ∙ c.loop-rest-test.false)) c.loop-rest.invariant.left)
