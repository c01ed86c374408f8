use Rattle.std.proofs.Common.{◌∙◌, sym}
use Rattle.std.proofs.lemmas.Bool.{eqb-true, eqb-false}
use Rattle.pam_tables.proofs.GroupSteps.{nobody, members_has, part_found, part_missed, last_part}
use Rattle.pam_tables.proofs.groups.has_member.Goals as goal

pub returns-then-is_empty : goal.returns-then-is_empty
returns-then-is_empty c = nobody c.args.user.now c.args.members.now (eqb-true _ _ (sym c.is_empty.ensures ∙ c.if-is_empty.true))

pub returns-then-eq : goal.returns-then-eq
returns-then-eq c =
    part_found c.args.user.now c.loop-member.rest.now _ _ c.in-Some.ensures.value (sym c.eq.ensures ∙ c.if-eq.true) ∙ c.loop-member.invariant
    ∙ sym (members_has c.args.user.now c.args.members.now (eqb-false _ _ (sym c.is_empty.ensures ∙ c.if-is_empty.false)))

pub loop-member-preserved : goal.loop-member-preserved
loop-member-preserved c =
    part_missed c.args.user.now c.loop-member.rest.now _ _ c.in-Some.ensures.value (sym c.eq.ensures ∙ c.if-eq.false) ∙ c.loop-member.invariant

pub returns : goal.returns
returns c =
    c.eq-2.ensures ∙ last_part c.args.user.now c.loop-member.rest.now c.in_default.ensures.value ∙ c.loop-member.invariant
    ∙ sym (members_has c.args.user.now c.args.members.now (eqb-false _ _ (sym c.is_empty.ensures ∙ c.if-is_empty.false)))
