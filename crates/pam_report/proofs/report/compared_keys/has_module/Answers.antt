use Rattle.std.proofs.Common.{◌<◌, ◌∙◌, List, Option, Vec, ap, arith, length, map, sym}
use Rattle.std.specs.Global.{Global}
use Rattle.std.specs.List.{list_any}
use Rattle.std.specs.Option.{option_map}
use Rattle.pam_conf.specs.Rule.{RuleText, rule_view}
use Rattle.pam_conf.specs.declared.rule.Rule.{Rule}
use Rattle.pam_report.specs.ComparedKeys.{calls}
use Rattle.pam_report.proofs.ComparedSteps.{is_there, it_calls, it_passes}
use Rattle.pam_report.proofs.report.compared_keys.has_module.Goals.{in-Some+else-some_calls, in_default}
use Rattle.pam_report.proofs.report.compared_keys.has_module.Goals as goal

abbrev rules_of : Option (Vec Rule Global) → Option (List RuleText)
rules_of found = option_map (λ (rules : Vec Rule Global). map rule_view rules.items) found

pub returns-then-some_calls : goal.returns-then-some_calls
returns-then-some_calls c =
    let folder = c.args.rules.now in
    let within : c.loop-position.position < length folder.entries = omega (arith, c.loop-position-test.true, c.len-position-end.ensures) in
    it_calls folder c.args.name.now c.loop-position.position within c.loop-position.invariant _ (map rule_view c.in-Some.of_file.items)
    (ap rules_of c.in-Some.is) c.in_ok-of_file.ensures
    (ap (λ (rules : List Rule). list_any (calls c.args.name.now) (map rule_view rules)) (sym c.deref.ensures.value)
    ∙ sym c.some_calls.ensures ∙ c.if-some_calls.true)

pub loop-position-preserved : goal.loop-position-preserved
loop-position-preserved c =
    let folder = c.args.rules.now in
    let within : c.loop-position.position < length folder.entries = omega (arith, c.loop-position-test.true, c.len-position-end.ensures) in
    elim c.match-branch-2.branch [
      | in-Some+else-some_calls w ↦
          it_passes folder c.args.name.now c.loop-position.position within c.loop-position.invariant _ (map rule_view w.in-Some.of_file.items)
          (ap rules_of w.in-Some.is) c.in_ok-of_file.ensures
          (ap (λ (rules : List Rule). list_any (calls c.args.name.now) (map rule_view rules)) (sym w.deref.ensures.value)
          ∙ sym w.some_calls.ensures ∙ w.if-some_calls.false)
      | in_default w ↦
          is_there folder c.args.name.now c.loop-position.position within c.loop-position.invariant _ (ap rules_of w.in_default.is) c.in_ok-of_file.ensures
    ]
