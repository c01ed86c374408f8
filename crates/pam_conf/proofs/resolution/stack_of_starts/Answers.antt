use Rattle.std.specs.Option.{option_map}
use Rattle.pam_conf.specs.inner.StartOf.{start_text}
use Rattle.pam_conf.proofs.ResolutionLemmas.{keeps-own}
use Rattle.pam_conf.proofs.resolution.stack_of_starts.Goals as goal

pub returns-then-not-is_empty : goal.returns-then-not-is_empty
returns-then-not-is_empty c =
    keeps-own c.args.files.now c.args.kind c.args.own c.in-Some.own (option_map start_text c.args.other) c.items.result.now c.in_ok-stack.stack c.in-Some.is
    c.in_ok-stack.ensures.stack c.items.ensures.items c.if-not-is_empty.ensures
