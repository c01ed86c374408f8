use Rattle.std.proofs.Common.{◌≤◌, [], arith, unwrap_or}
use Rattle.pam_conf.specs.Stack.{module_count}
use Rattle.pam_facts.specs.known.Tables.{tables_view}
use Rattle.pam_facts.proofs.Replaced.{replaced-next}
use Rattle.pam_paths.specs.Known.{may_answer}
use Rattle.pam_policy.specs.host.Answers.{checked_with}
use Rattle.pam_policy.proofs.host.checkers.set_by_lines.Goals as goal

pub loop-index-preserved : goal.loop-index-preserved
loop-index-preserved c base allows number code low high small =
    let most : module_count c.args.stack.now ≤ 256 = omega (arith, c.modules-index-end.ensures.count, c.modules-index-end.ensures.most) in
    replaced-next (checked_with (tables_view c.args.tables.now) (unwrap_or c.args.lines.now []) c.args.stack.now) base
    (may_answer c.loop-index.known) (may_answer c.replace_codes.new.known) c.checked_at.result c.loop-index.index number code
    c.checked_at.ensures.codes (c.replace_codes.ensures number code low (omega (arith, most, high)) small)
    (c.loop-index.invariant base allows number code low high small)
