use Rattle.std.proofs.Common.{◌+◌, [], drop, refl, true}
use Rattle.pam_text.proofs.Writing.{all-none, all-then, err-front, front-is, front-longer, front-then, writes-is, writes-then}
use Rattle.pam_render.proofs.JsonLinesProofs.Lines.{member-more, members-all, rest_text}
use Rattle.pam_render.proofs.json_lines.value.put_members.Goals as goal

pub loop-member-init : goal.loop-member-init
loop-member-init g c = record { front = []; parts = refl; took = all-none c.args.out.now }

pub returns-in_err-put_next : goal.returns-in_err-put_next
returns-in_err-put_next g c =
    let members = c.args.members.now in
    let index = c.loop-member.member-index in
    let l = c.loop-member.invariant in
    err-front _ c.from_residual.ensures.0
    (front-is (front-longer (rest_text g.V.Written.value true (drop (index + 1) members)) (front-then l.took c.in_err-put_next.ensures))
    (member-more g.V.Written.value l.front _ c.loop-member.later members index _ c.member-item.result c.loop-member-test.true c.member-item.is l.parts))

pub loop-member-preserved : goal.loop-member-preserved
loop-member-preserved g c =
    let l = c.loop-member.invariant in
    record {
      front = _;
      parts = member-more g.V.Written.value l.front _ c.loop-member.later c.args.members.now c.loop-member.member-index _
          c.member-item.result c.loop-member-test.true c.member-item.is l.parts;
      took = all-then l.took c.in_ok-put_next.ensures;
    }

pub returns : goal.returns
returns g c =
    let l = c.loop-member.invariant in
    writes-is _ _ _ _ _ _ (writes-then _ _ _ l.took c.put.ensures)
    (members-all g.V.Written.value l.front _ c.loop-member.later c.args.members.now c.loop-member.member-index c.loop-member-test.false l.parts)
