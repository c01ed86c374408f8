-- the files that are left have the module as all do
use Rattle.std.proofs.Common.{◌≡◌, drop}
use Rattle.std.specs.List.{list_any}
use Rattle.pam_conf.specs.FileRules.{good_rules}
use Rattle.pam_report.specs.ComparedKeys.{calls, has_module}
use Rattle.pam_report.proofs.report.compared_keys.has_module.Given as goal

abbrev pub invariant-loop-position : goal.invariant-loop-position
invariant-loop-position l =
    list_any (λ f. list_any (calls l.name) (good_rules l.rules.form f.1)) (drop l.position l.rules.entries) ≡ has_module l.rules l.name
