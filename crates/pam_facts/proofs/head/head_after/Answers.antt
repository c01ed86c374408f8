use Rattle.std.proofs.Common.{◌∙◌, sym, ap}
use Rattle.std.specs.Option.{option_map}
use Rattle.pam_facts.specs.Rows.{with_argument}
use Rattle.pam_facts.proofs.HeadSteps.{argument, class_found, no_class, nothing_left}
use Rattle.pam_facts.proofs.head.head_after.Goals as goal

pub returns-in_err-second : goal.returns-in_err-second
returns-in_err-second c = rw c.from_residual.ensures (ap (option_map (with_argument c.args.first.now)) (sym (nothing_left _ 1 c.in_err-second.ensures)))

pub returns-in-Some : goal.returns-in-Some
returns-in-Some c = ap (option_map (with_argument c.args.first.now)) (class_found _ _ _ c.in_ok-second.ensures 1 _ c.in-Some.ensures)

pub returns-in_err-word : goal.returns-in_err-word
returns-in_err-word c =
    rw c.from_residual-in_err-word.ensures (ap (option_map (with_argument c.args.first.now))
    (ap (option_map (with_argument c.in_ok-second.second.now)) (sym (nothing_left _ 0 c.in_err-word.ensures))
    ∙ argument _ _ _ c.in_ok-second.ensures 0 c.in_default.ensures))

pub returns-in_err-class : goal.returns-in_err-class
returns-in_err-class c =
    rw c.from_residual-in_err-class.ensures (ap (option_map (with_argument c.args.first.now))
    (ap (option_map (with_argument c.in_ok-second.second.now)) (no_class _ _ _ c.in_ok-word.ensures c.in_err-class.ensures)
    ∙ argument _ _ _ c.in_ok-second.ensures 0 c.in_default.ensures))

pub returns : goal.returns
returns c =
    ap (option_map (with_argument c.args.first.now))
    (ap (option_map (with_argument c.in_ok-second.second.now)) (class_found _ _ _ c.in_ok-word.ensures 0 _ c.in_ok-class.ensures)
    ∙ argument _ _ _ c.in_ok-second.ensures 0 c.in_default.ensures)
