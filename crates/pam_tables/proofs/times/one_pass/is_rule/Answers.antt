use Rattle.std.proofs.Common.{◌∙◌, ap, length, sym}
use Rattle.std.proofs.lemmas.Bool.{eqb-true}
use Rattle.pam_tables.proofs.TimesProofs.OnePassSteps.{has_rule}
use Rattle.pam_tables.proofs.times.one_pass.is_rule.Goals as goal

pub returns-in-Some-past_list : goal.returns-in-Some-past_list
returns-in-Some-past_list c = λ is number.
    let s = c.in-Some.ensures in
    let t = c.in-Some-past_field.ensures in
    let u = c.in-Some-past_field-2.ensures in
    let v = c.in-Some-past_list.ensures in
    has_rule number c.args.line.now _ _ _ s.list s.cut t.list t.cut u.list u.cut v.list
    (ap length v.end ∙ eqb-true _ _ (sym c.is_empty.ensures ∙ is))
