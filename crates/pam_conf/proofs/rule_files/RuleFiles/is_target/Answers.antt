use Rattle.std.proofs.Common.{◌∙◌, ap, List}
use Rattle.std.specs.List.{list_any}
use Rattle.pam_conf.specs.Files.{Folder}
use Rattle.pam_conf.specs.inner.FilesRead.{file_view}
use Rattle.pam_conf.specs.Targets.{is_target, names_target}
use Rattle.pam_conf.specs.declared.rule_files.FileRules.{FileRules}
use Rattle.pam_conf.proofs.TargetLemmas.{target-read}
use Rattle.pam_conf.proofs.rule_files.RuleFiles.is_target.Goals as goal

pub returns : goal.returns
returns c =
    c.files_name.ensures
    ∙ ap (λ (files : List FileRules). list_any (λ f. list_any (names_target c.args.name.now) (file_view f).rules) files) c.as_slice.ensures.value
    ∙ target-read c.self.inside.files.now c.args.name.now c.self.inside.read.items c.self.invariant
    ∙ ap (λ (f : Folder). is_target f c.args.name.now) c.self.view_is
