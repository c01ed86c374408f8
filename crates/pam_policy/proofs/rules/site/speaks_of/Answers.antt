use Rattle.std.proofs.Common.{◌∙◌, ◌≡◌, Bool, List, ap, map, sym, true}
use Rattle.std.specs.List.{list_all}
use Rattle.std.specs.Prelude.{◌&&◌}
use Rattle.pam_policy.specs.declared.text.test.Test.{Test}
use Rattle.pam_policy.specs.text.Events.{names_module}
use Rattle.pam_policy.specs.text.Tests.{holds, test_view}
use Rattle.pam_policy.proofs.RulesProofs.Lists.{all-map}
use Rattle.pam_policy.proofs.rules.site.speaks_of.Goals as goal

pub returns-then-names : goal.returns-then-names
returns-then-names c =
    let event = c.args.event.now in
    let m = c.args.module.now in
    let all : List Test → Bool = λ tests. list_all (λ test. holds (test_view test) m.arguments) tests in
    let names : names_module event.name.now c.args.is_strict m.path.items ≡ true =
    ap (names_module event.name.now c.args.is_strict) (sym c.deref.ensures.value) ∙ sym c.names.ensures ∙ c.if-names.true in
    c.all_hold.ensures
    ∙ ap all c.deref-then-names.ensures.value
    ∙ sym (all-map (λ test. holds test m.arguments) test_view event.tests.items)
    ∙ ap (λ (t : Bool). t && list_all (λ test. holds test m.arguments) (map test_view event.tests.items)) (sym names)
