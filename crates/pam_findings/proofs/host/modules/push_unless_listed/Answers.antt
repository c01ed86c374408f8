use Rattle.std.proofs.Common.{◌∙◌, sym}
use Rattle.pam_findings.specs.declared.host.problem.Problem.TheVariants as problems
use Rattle.pam_findings.proofs.HostProofs.Asking.{adds-listed, adds-unlisted}
use Rattle.pam_findings.proofs.host.modules.push_unless_listed.Goals as goal

pub returns-then-is_listed : goal.returns-then-is_listed
returns-then-is_listed c =
    adds-listed problems.NeverAsked c.args.stack.now c.args.never_asked.now c.args.number c.args.asked.now.items
    (sym c.is_listed.ensures ∙ c.if-is_listed.true)

pub returns : goal.returns
returns c =
    adds-unlisted problems.NeverAsked c.args.stack.now c.args.never_asked.now c.args.number c.args.asked.now.items c.push_module.new.spots.items
    (sym c.is_listed.ensures ∙ c.if-is_listed.false) c.in_ok-push_module.ensures
