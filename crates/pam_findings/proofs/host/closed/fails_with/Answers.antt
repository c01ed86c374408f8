use Rattle.std.proofs.Common.{◌∙◌, sym, ap}
use Rattle.std.proofs.lemmas.Option.{get_or_from_slice_get}
use Rattle.pam_codes.specs.declared.action.Action.TheVariants.{Ignore}
use Rattle.pam_dispatch.specs.State.{action_of}
use Rattle.pam_findings.specs.host.Closed.{is_failure}
use Rattle.pam_findings.proofs.StackProofs.CanPass.{new-code, new-none}
use Rattle.pam_findings.proofs.host.closed.fails_with.Goals as goal

pub returns-in-Some : goal.returns-in-Some
returns-in-Some c =
    let is = new-code c.args.number c.in-Some.code (sym c.in-Some.is ∙ c.new.ensures) in
    c.is_failure.ensures
    ∙ ap is_failure (sym (get_or_from_slice_get c.args.control.now c.in-Some.code c.action.result Ignore c.action.ensures.of_code)
    ∙ ap (action_of c.args.control.now) is)

pub returns-in-None : goal.returns-in-None
returns-in-None c = absurd (new-none c.args.number c.requires (sym c.in-None.is ∙ c.new.ensures))
