use Rattle.std.proofs.Common.{◌∙◌, ap}
use Rattle.pam_tables.specs.Lists.{mark_of}
use Rattle.pam_tables.specs.Tokens.{user_mark}
use Rattle.pam_tables.proofs.MarkSteps.{group_is, plain_is}
use Rattle.pam_tables.proofs.users.UserMatcherMatcher.mark.Goals as goal

pub returns-in-Some : goal.returns-in-Some
unfolding user_mark
returns-in-Some c = λ pattern h.
    let m = c.args.self.now in
    c.of.ensures ∙ ap mark_of c.has.ensures
    ∙ ap (user_mark m.memberships.now.groups.now m.by_name m.memberships.now.user.now) (group_is c.args.token.now _ h _ c.in-Some.ensures)

pub returns-in-None : goal.returns-in-None
returns-in-None c = λ pattern h. c.plain_mark.ensures pattern (plain_is c.args.token.now _ h c.in-None.ensures)
