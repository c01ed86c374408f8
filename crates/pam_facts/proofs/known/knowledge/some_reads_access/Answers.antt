use Rattle.std.proofs.Common.{◌<◌, ◌∙◌, sym, arith}
use Rattle.pam_conf.specs.Stack.{module_count}
use Rattle.pam_facts.proofs.KnownProofs.FaultSteps.{any_next}
use Rattle.pam_facts.proofs.known.knowledge.some_reads_access.Goals as goal

pub loop-index-preserved : goal.loop-index-preserved
loop-index-preserved c =
    let within : c.loop-index.index < module_count c.args.stack.now = omega (arith, c.modules-index-end.ensures.count, c.loop-index-test.true) in
    any_next _ _ _ _ within (sym c.reads_access.ensures ∙ c.if-reads_access.false) c.loop-index.invariant
