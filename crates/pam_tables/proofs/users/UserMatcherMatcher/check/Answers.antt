use Rattle.std.proofs.Common.{◌∙◌, sym}
use Rattle.pam_tables.proofs.MarkSteps.{netgroup, group_passes, at_fails, plain_passes}
use Rattle.pam_tables.proofs.users.UserMatcherMatcher.check.Goals as goal

pub returns-then-starts_with : goal.returns-then-starts_with
returns-then-starts_with c = netgroup _ (sym c.starts_with.ensures.value ∙ c.if-starts_with.true)

pub returns-in-Some : goal.returns-in-Some
returns-in-Some c = group_passes _ (sym c.starts_with.ensures.value ∙ c.if-starts_with.false) _ c.in-Some.ensures

pub returns-then-has_at : goal.returns-then-has_at
returns-then-has_at c = at_fails _ (sym c.starts_with.ensures.value ∙ c.if-starts_with.false) c.in-None.ensures (sym c.has_at.ensures ∙ c.if-has_at.true)

pub returns-else-has_at : goal.returns-else-has_at
returns-else-has_at c = plain_passes _ (sym c.starts_with.ensures.value ∙ c.if-starts_with.false) c.in-None.ensures (sym c.has_at.ensures ∙ c.if-has_at.false)
