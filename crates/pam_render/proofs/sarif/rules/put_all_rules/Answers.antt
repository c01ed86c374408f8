use Rattle.std.proofs.Common.{◌∙◌, sym, true}
use Rattle.pam_text.proofs.Writing.{all-is, all-then, err-front, front-is, front-longer, front-then}
use Rattle.pam_render.proofs.JsonLinesProofs.Kept.{kept-all, kept-more, kept-skipped, kept_text}
use Rattle.pam_render.specs.sarif.Rules.{is_rule, rule_object}
use Rattle.pam_report.specs.ReplyViews.{check_view}
use Rattle.pam_render.proofs.sarif.rules.put_all_rules.Goals as goal

pub returns-in_err-put_next_rule : goal.returns-in_err-put_next_rule
returns-in_err-put_next_rule g c =
    let test = is_rule (check_view c.args.reply.now) in
    let l = c.loop-explanation.invariant in
    err-front _ c.from_residual.ensures.0
    (front-is (front-longer (kept_text rule_object test true c.next.new.self) (front-then l.took c.in_err-put_next_rule.ensures))
    (kept-more rule_object test l.front _ c.loop-explanation.later _ _ _ c.in-Some.ensures.steps (sym c.is_found.ensures ∙ c.if-is_found.true) l.parts))

pub loop-explanation-preserved-then-is_found : goal.loop-explanation-preserved-then-is_found
loop-explanation-preserved-then-is_found g c =
    let test = is_rule (check_view c.args.reply.now) in
    let l = c.loop-explanation.invariant in
    record {
      front = _;
      parts = kept-more rule_object test l.front _ c.loop-explanation.later _ _ _ c.in-Some.ensures.steps (sym c.is_found.ensures ∙ c.if-is_found.true)
          l.parts;
      took = all-then l.took c.in_ok-put_next_rule.ensures;
    }

pub loop-explanation-preserved : goal.loop-explanation-preserved
loop-explanation-preserved g c =
    let test = is_rule (check_view c.args.reply.now) in
    let l = c.loop-explanation.invariant in
    record {
      front = l.front;
      parts = kept-skipped rule_object test l.front _ c.loop-explanation.later _ _ _ c.in-Some.ensures.steps
          (sym c.is_found.ensures ∙ c.if-is_found.false) l.parts;
      took = l.took;
    }

pub returns : goal.returns
returns g c =
    let l = c.loop-explanation.invariant in
    all-is l.took
    (kept-all rule_object (is_rule (check_view c.args.reply.now)) l.front _ c.loop-explanation.later _ c.in-None.ensures.steps.0 l.parts)
