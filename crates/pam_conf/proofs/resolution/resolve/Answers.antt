use Rattle.std.proofs.Common.{Result, subst, sym, ◌∙◌}
use Rattle.pam_conf.specs.Tells.{ErrorTells}
use Rattle.pam_text.specs.Gives.{Gives}
use Rattle.pam_conf.specs.Stack.{Items}
use Rattle.pam_conf.specs.declared.conf_error.ConfError.{ConfError}
use Rattle.pam_conf.specs.declared.rule.Form.TheVariants.{Dir, Single}
use Rattle.pam_conf.proofs.ResolutionLemmas.{resolved-in}
use Rattle.pam_conf.proofs.resolution.resolve.Goals as goal

pub returns-in-Dir : goal.returns-in-Dir
returns-in-Dir c =
    subst (λ (meant : Result Items ConfError). Gives ErrorTells (λ s. s) c.folder_stack.result meant)
    (resolved-in c.args.files.now c.args.kind Dir c.args.service.now c.as_slice.result.now (sym c.in-Dir.ensures)
    (c.as_slice.ensures.value ∙ c.in_ok-service.ensures)) c.folder_stack.ensures

pub returns : goal.returns
returns c =
    subst (λ (meant : Result Items ConfError). Gives ErrorTells (λ s. s) c.one_file_stack.result meant)
    (resolved-in c.args.files.now c.args.kind Single c.args.service.now c.as_slice-in-Single.result.now (sym c.in-Single.ensures)
    (c.as_slice-in-Single.ensures.value ∙ c.in_ok-service.ensures)) c.one_file_stack.ensures
