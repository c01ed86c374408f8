use Rattle.std.proofs.Common.{◌∙◌, sym}
use Rattle.pam_findings.proofs.HostProofs.Halves.{listed-if, listed-member, member-listed, not-both}
use Rattle.pam_findings.proofs.host.faillock.is_asked_with.Goals as goal

pub returns-then-has_task_at-clause-yes : goal.returns-then-has_task_at-clause-yes
returns-then-has_task_at-clause-yes c tells = (
  sym c.has_task_at.ensures ∙ c.if-has_task_at.true,
  λ m. not-both c.is_listed.result tells (c.is_listed.ensures ∙ member-listed c.args.number c.args.never_asked.now m),
)

pub returns-then-has_task_at-clause-no : goal.returns-then-has_task_at-clause-no
returns-then-has_task_at-clause-no c tells _ =
    listed-member c.args.number c.args.never_asked.now (sym c.is_listed.ensures ∙ listed-if c.is_listed.result tells)
