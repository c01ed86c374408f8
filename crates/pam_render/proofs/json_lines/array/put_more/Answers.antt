use Rattle.std.proofs.Common.{◌+◌, [], drop, refl, true}
use Rattle.pam_text.proofs.Writing.{all-is, all-none, all-then, err-front, front-is, front-longer, front-then}
use Rattle.pam_render.proofs.JsonLinesProofs.Arrays.{element-more, elements-all, left_text}
use Rattle.pam_render.proofs.json_lines.array.put_more.Goals as goal

pub loop-item-init : goal.loop-item-init
loop-item-init g c = record { front = []; parts = refl; took = all-none c.args.out.now }

pub returns-in_err-put_next : goal.returns-in_err-put_next
returns-in_err-put_next g c =
    let element = g.E.Elements.element c.args.elements.now in
    let items = c.args.items.now in
    let index = c.loop-item.item-index in
    let l = c.loop-item.invariant in
    err-front _ c.from_residual.ensures.0
    (front-is (front-longer (left_text element true (drop (index + 1) items)) (front-then l.took c.in_err-put_next.ensures))
    (element-more element l.front _ c.loop-item.later items index _ c.item-item.result c.loop-item-test.true c.item-item.is l.parts))

pub loop-item-preserved : goal.loop-item-preserved
loop-item-preserved g c =
    let element = g.E.Elements.element c.args.elements.now in
    let l = c.loop-item.invariant in
    record {
      front = _;
      parts = element-more element l.front _ c.loop-item.later c.args.items.now c.loop-item.item-index _ c.item-item.result c.loop-item-test.true c.item-item.is
          l.parts;
      took = all-then l.took c.in_ok-put_next.ensures;
    }

pub returns : goal.returns
returns g c =
    let l = c.loop-item.invariant in
    all-is l.took
    (elements-all (g.E.Elements.element c.args.elements.now) l.front _ c.loop-item.later c.args.items.now c.loop-item.item-index c.loop-item-test.false l.parts)
