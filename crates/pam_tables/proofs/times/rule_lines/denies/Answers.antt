use Rattle.std.proofs.Common.{◌∙◌, sym}
use Rattle.pam_tables.specs.times.Login.{login_view}
use Rattle.pam_tables.specs.times.Reading.{fields_view}
use Rattle.pam_tables.proofs.TimesProofs.RuleSteps.{has_cut, no_cut, not_served, others_decide, same_fields}
use Rattle.pam_tables.proofs.times.rule_lines.denies.Goals as goal

pub returns-in_default : goal.returns-in_default
returns-in_default c = λ number rule is.
    absurd (no_cut number rule c.args.line.now is (login_view c.args.login.now) c.args.time.day c.args.time.minute c.in_default.ensures.value)

pub returns-then-not-name_holds : goal.returns-then-not-name_holds
returns-then-not-name_holds c = λ number rule is.
    not_served number rule c.args.line.now is (login_view c.args.login.now) c.args.time.day c.args.time.minute _ _ c.in-Some.ensures.value
    (sym c.name_holds.ensures ∙ c.if-not-name_holds.true)

pub returns-in-Some-cut_others : goal.returns-in-Some-cut_others
returns-in-Some-cut_others c = λ number rule is.
    let same = same_fields number rule c.args.line.now is (login_view c.args.login.now) c.args.time.day c.args.time.minute _ _ c.in-Some.ensures.value in
    others_decide number rule c.args.line.now is (login_view c.args.login.now) c.args.time.day c.args.time.minute _ _ c.in-Some.ensures.value
    (fields_view c.in-Some-cut_others.fields) _ (sym c.name_holds.ensures ∙ c.if-not-name_holds.false)
    (c.in-Some-cut_others.ensures ∙ same) c.others_deny.ensures

pub returns-in-None : goal.returns-in-None
returns-in-None c = λ number rule is.
    let same = same_fields number rule c.args.line.now is (login_view c.args.login.now) c.args.time.day c.args.time.minute _ _ c.in-Some.ensures.value in
    absurd (has_cut number rule c.args.line.now is (login_view c.args.login.now) c.args.time.day c.args.time.minute (c.in-None.ensures ∙ same))
