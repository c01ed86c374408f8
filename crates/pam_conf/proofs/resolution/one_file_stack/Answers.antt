use Rattle.std.proofs.Common.{Result, codes, refl, subst, sym, ◌∙◌}
use Rattle.std.proofs.lemmas.Result.{err_from_is_err_and}
use Rattle.pam_conf.specs.Resolution.{start_in}
use Rattle.pam_conf.specs.Stack.{Items}
use Rattle.pam_conf.specs.Tells.{ErrorTells}
use Rattle.pam_conf.specs.Walk.{rules_at}
use Rattle.pam_conf.specs.declared.conf_error.ConfError.{ConfError}
use Rattle.pam_conf.specs.declared.rule.Form.TheVariants.{Single}
use Rattle.pam_text.specs.Gives.{Gives}
use Rattle.pam_conf.proofs.ResolutionLemmas as lemmas
use Rattle.pam_conf.proofs.resolution.one_file_stack.Goals as goal

pub returns-in_err-rules : goal.returns-in_err-rules
returns-in_err-rules c =
    let p = err_from_is_err_and c.from_residual.result c.from_residual.ensures.1 in
    rw (p.1, p.2) (lemmas.one-file_fault c.args.files.now c.args.kind c.args.service.now (start_in Single c.args.files.now (rules_at c.args.files.now)
    (codes "other")) c.in-Some.file
    c.in_err-rules.field-0.0 (sym c.in-Some.ensures) _ c.in_err-rules.ensures)

pub stack_of_starts-requires-clause-own_read : goal.stack_of_starts-requires-clause-own_read
stack_of_starts-requires-clause-own_read c =
    lemmas.start-is_read c.args.files.now c.args.kind c.in-Some.file _ _ _ c.carried_start-own.ensures.read
    (lemmas.own-read c.args.files.now c.in-Some.file c.args.service.now (codes "other") _ _ _
    (λ r. refl) c.in_ok-rules.ensures c.as_slice.ensures.value c.args.kind)

pub stack_of_starts-requires-clause-other_read : goal.stack_of_starts-requires-clause-other_read
stack_of_starts-requires-clause-other_read c =
    lemmas.start-is_read c.args.files.now c.args.kind c.in-Some.file _ _ _ c.carried_start-other.ensures.read
    (lemmas.other-read c.args.files.now c.in-Some.file c.args.service.now (codes "other") _ _ _
    (λ r. refl) c.in_ok-rules.ensures c.as_slice-2.ensures.value c.args.kind)

pub returns : goal.returns
returns c =
    let folder = c.args.files.now in
    let at = sym c.in-Some.ensures in
    subst (λ (meant : Result Items ConfError). Gives ErrorTells (λ s. s) c.stack_of_starts.result meant)
    (lemmas.same-starts folder c.args.kind _ _ _ _
    (c.carried_start-own.ensures.start ∙ lemmas.own-start folder c.in-Some.file c.args.service.now (codes "other") _ _ _
    (λ r. refl) c.in_ok-rules.ensures c.as_slice.ensures.value at)
    (c.carried_start-other.ensures.start ∙ lemmas.other-start folder c.in-Some.file c.args.service.now (codes "other") _ _ _
    (λ r. refl) c.in_ok-rules.ensures c.as_slice-2.ensures.value at))
    c.stack_of_starts.ensures
