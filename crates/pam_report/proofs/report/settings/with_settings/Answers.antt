use Rattle.std.proofs.Common.{◌∙◌, map, sym}
use Rattle.std.specs.Option.{option_map}
use Rattle.pam_report.proofs.SettingSteps.{not-named, settled}
use Rattle.pam_facts.specs.settings.Settings.{setting_view}
use Rattle.pam_report.proofs.report.settings.with_settings.Goals as goal

pub returns-then-not-all_name_one-clause-stack : goal.returns-then-not-all_name_one-clause-stack
returns-then-not-all_name_one-clause-stack c told h =
    not-named c.args.files.now (option_map (λ t. t.now) c.args.there) (map setting_view c.args.settings.now) _ _ told h
    (sym c.if-not-all_name_one.true ∙ c.all_name_one.ensures)

pub returns-clause-stack : goal.returns-clause-stack
returns-clause-stack c told h =
    settled c.args.files.now (option_map (λ t. t.now) c.args.there) (map setting_view c.args.settings.now) _ _ told h _
    (sym c.if-not-all_name_one.false ∙ c.all_name_one.ensures) (c.set_missing.ensures _ (c.set_codes.ensures h.codes h.agree))
