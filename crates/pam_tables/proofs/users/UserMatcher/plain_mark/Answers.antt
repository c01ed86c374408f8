use Rattle.std.proofs.Common.{◌∙◌, sym, ap}
use Rattle.pam_tables.specs.Lists.{mark_of}
use Rattle.pam_tables.specs.Tokens.{user_mark}
use Rattle.pam_tables.proofs.MarkSteps.{except_is, all_is, name_is}
use Rattle.pam_tables.proofs.users.UserMatcher.plain_mark.Goals as goal

pub returns-then-is_name : goal.returns-then-is_name
unfolding user_mark
returns-then-is_name c = λ pattern h.
    let m = c.args.self.now in
    ap (user_mark m.memberships.now.groups.now m.by_name m.memberships.now.user.now)
    (except_is c.args.token.now _ h (sym c.is_name.ensures ∙ c.if-is_name.true))

pub returns-then-is_name-2 : goal.returns-then-is_name-2
unfolding user_mark
returns-then-is_name-2 c = λ pattern h.
    let m = c.args.self.now in
    ap (user_mark m.memberships.now.groups.now m.by_name m.memberships.now.user.now)
    (all_is c.args.token.now _ h (sym c.is_name.ensures ∙ c.if-is_name.false)
    (sym c.is_name-else-is_name.ensures ∙ c.if-is_name-2.true))

pub returns-else-is_name-2 : goal.returns-else-is_name-2
unfolding user_mark
returns-else-is_name-2 c = λ pattern h.
    let m = c.args.self.now in
    c.of.ensures ∙ ap mark_of c.is_named.ensures ∙ ap (user_mark m.memberships.now.groups.now m.by_name m.memberships.now.user.now)
    (name_is c.args.token.now _ h (sym c.is_name.ensures ∙ c.if-is_name.false) (sym c.is_name-else-is_name.ensures ∙ c.if-is_name-2.false))
