use Rattle.std.proofs.Common.{true}
use Rattle.pam_text.proofs.Writing.{all-then, err-front, front-is, front-longer, front-then, writes-is, writes-then}
use Rattle.pam_render.proofs.JsonLinesProofs.Arrays.{item-more, items-all, rest_text}
use Rattle.pam_render.specs.json_lines.Line.{readable}
use Rattle.pam_render.proofs.json_lines.array.put_all_strings.Goals as goal

pub returns-in_err-put_next_string : goal.returns-in_err-put_next_string
returns-in_err-put_next_string g c =
    let l = c.loop-text.invariant in
    err-front _ c.from_residual.ensures.0
    (front-is (front-longer (rest_text readable true c.next.new.self) (front-then l.took c.in_err-put_next_string.ensures))
    (item-more readable l.front _ c.loop-text.later _ _ _ c.in-Some.ensures.steps l.parts))

pub loop-text-preserved : goal.loop-text-preserved
loop-text-preserved g c =
    let l = c.loop-text.invariant in
    record {
      front = _;
      parts = item-more readable l.front _ c.loop-text.later c.in-Some.text.now _ _ c.in-Some.ensures.steps l.parts;
      took = all-then l.took c.in_ok-put_next_string.ensures;
    }

pub returns : goal.returns
returns g c =
    let l = c.loop-text.invariant in
    writes-is _ _ _ _ _ _ (writes-then _ _ _ l.took c.put.ensures) (items-all readable l.front _ c.loop-text.later _ c.in-None.ensures.steps.0 l.parts)
