use Rattle.std.proofs.Common.{◌∙◌, ap, sym, List}
use Rattle.std.specs.List.{list_any}
use Rattle.pam_conf.specs.inner.Kept.{kept_view}
use Rattle.pam_conf.specs.Targets.{names_target}
use Rattle.pam_conf.specs.declared.kept.KeptRule.{KeptRule}
use Rattle.pam_conf.proofs.TargetLemmas.{any-map}
use Rattle.pam_conf.proofs.rule_files.file_names.Goals as goal

pub returns : goal.returns
returns c =
    c.rules_name.ensures
    ∙ ap (λ (rules : List KeptRule). list_any (λ rule. names_target c.args.name.now (kept_view rule)) rules) c.as_slice.ensures.value
    ∙ sym (any-map (names_target c.args.name.now) kept_view c.args.file.now.rules.items)
