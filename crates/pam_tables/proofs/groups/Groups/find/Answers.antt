use Rattle.std.proofs.Common.{None, Some}
use Rattle.pam_tables.specs.Groups.{members_of}
use Rattle.pam_tables.proofs.GroupSteps.{listed_at, named_in}
use Rattle.pam_tables.proofs.groups.Groups.find.Goals as goal

pub returns-in_err-index-clause-named : goal.returns-in_err-index-clause-named
returns-in_err-index-clause-named c = λ user.
    rw c.from_residual.ensures (named_in (λ k. k.now) (λ v. members_of v.now) c.args.self.now c.self.inside.members.entries c.self.view_is user c.args.group.now
    None c.in_err-index.ensures.value)

pub returns-clause-named : goal.returns-clause-named
returns-clause-named c = λ user.
    named_in (λ k. k.now) (λ v. members_of v.now) c.args.self.now c.self.inside.members.entries c.self.view_is user c.args.group.now
    (Some c.in_ok-index.members.now) c.in_ok-index.ensures.value

pub returns-clause-at : goal.returns-clause-at
returns-clause-at c = λ user.
    listed_at (λ k. k.now) (λ v. members_of v.now) c.args.self.now c.self.inside.members.entries c.self.view_is user c.in_ok-index.index
    c.in_ok-index.field-0-1.now c.in_ok-index.members.now c.in_ok-index.ensures.entry
