use Rattle.std.proofs.Common.{◌≤◌, arith, map}
use Rattle.pam_conf.specs.Stack.{module_count}
use Rattle.pam_facts.specs.settings.Settings.{setting_view}
use Rattle.pam_facts.proofs.Replaced.{replaced-next}
use Rattle.pam_paths.specs.Known.{may_answer}
use Rattle.pam_policy.specs.host.Answers.{set_at}
use Rattle.pam_policy.proofs.host.answers.set_codes.Goals as goal

pub loop-index-preserved : goal.loop-index-preserved
loop-index-preserved c base allows number code low high small =
    let most : module_count c.args.stack.now ≤ 256 = omega (arith, c.modules-index-end.ensures.count, c.modules-index-end.ensures.most) in
    replaced-next (set_at (map setting_view c.args.settings.now) c.args.stack.now) base
    (may_answer c.loop-index.known) (may_answer c.replace_codes.new.known) c.set_at.result c.loop-index.index number code
    c.set_at.ensures.codes (c.replace_codes.ensures number code low (omega (arith, most, high)) small)
    (c.loop-index.invariant base allows number code low high small)
