use Rattle.std.proofs.Common.{◌≤◌, arith}
use Rattle.std.specs.Option.{option_map}
use Rattle.pam_conf.specs.Stack.{module_count}
use Rattle.pam_paths.specs.Known.{may_answer}
use Rattle.pam_facts.specs.Missing.{missing_at, where_there}
use Rattle.pam_facts.proofs.Replaced.{replaced-next}
use Rattle.pam_facts.proofs.missing.set_missing.Goals as goal

pub loop-index-init : goal.loop-index-init
loop-index-init c codes allows number code low high small = (λ le. absurd (omega (arith, low, le)), λ lt. allows number code low high small)

pub loop-index-preserved : goal.loop-index-preserved
loop-index-preserved c codes allows number code low high small =
    let most : module_count c.args.stack.now ≤ 256 = omega (arith, c.modules-index-end.ensures.count, c.modules-index-end.ensures.most) in
    replaced-next (missing_at (option_map (λ t. t.now) c.args.there) c.args.stack.now) codes
    (may_answer c.loop-index.known) (may_answer c.replace_codes.new.known) c.missing_at.result c.loop-index.index number code
    c.missing_at.ensures.codes (c.replace_codes.ensures number code low (omega (arith, most, high)) small)
    (c.loop-index.invariant codes allows number code low high small)

pub returns : goal.returns
unfolding where_there
returns c codes allows number code low high small =
    (c.loop-index.invariant codes allows number code low high small).0 (omega (arith, high, c.loop-index-test.false, c.modules-index-end.ensures.count))
