use Rattle.std.proofs.Common.{◌∙◌, sym}
use Rattle.pam_findings.proofs.HostProofs.Halves.{listed-if, listed-member, member-listed, not-both}
use Rattle.pam_findings.proofs.host.taking.may_lack.Goals as goal

pub returns-then-only_takes-clause-yes : goal.returns-then-only_takes-clause-yes
returns-then-only_takes-clause-yes c tells = (
  sym c.only_takes.ensures ∙ c.if-only_takes.true,
  λ m. not-both c.is_listed.result tells (c.is_listed.ensures ∙ member-listed c.args.number c.args.never_asked.now m),
)

pub returns-then-only_takes-clause-no : goal.returns-then-only_takes-clause-no
returns-then-only_takes-clause-no c tells _ =
    listed-member c.args.number c.args.never_asked.now (sym c.is_listed.ensures ∙ listed-if c.is_listed.result tells)
