use Rattle.std.proofs.Common.{◌≤◌, arith}
use Rattle.std.specs.Option.{option_map}
use Rattle.pam_conf.specs.Stack.{module_count}
use Rattle.pam_paths.specs.Known.{may_answer}
use Rattle.pam_facts.proofs.Replaced.{replaced-next}
use Rattle.pam_changes.specs.Known.{told_at}
use Rattle.pam_changes.specs.Sides.{sides_view}
use Rattle.pam_changes.proofs.known.add_told.Goals as goal

pub loop-index-preserved : goal.loop-index-preserved
loop-index-preserved c base allows number code low high small =
    let told = sides_view c.args.sides.now in
    let most : module_count c.args.stack.now ≤ 256 = omega (arith, c.modules-index-end.ensures.count, c.modules-index-end.ensures.most) in
    replaced-next (told_at told.returns told.settings (option_map (λ t. t.now) c.args.there) c.args.stack.now) base
    (may_answer c.loop-index.known) (may_answer c.replace_codes.new.known) c.told_at.result c.loop-index.index number code
    c.told_at.ensures.codes (c.replace_codes.ensures number code low (omega (arith, most, high)) small)
    (c.loop-index.invariant base allows number code low high small)
