use Rattle.std.proofs.Common.{◌∙◌, Some, ap, sym}
use Rattle.pam_graph.specs.inner.Tallies.{plus}
use Rattle.pam_graph.proofs.Counting.{sum-fits}
use Rattle.pam_graph.proofs.tally.plus.Goals as goal

pub returns-in-Some-other : goal.returns-in-Some-other
returns-in-Some-other c =
    sum-fits c.checked_add.result c.in-Some.a c.in-Some-other.b c.checked_add.ensures
    ∙ sym (ap (λ x. plus x c.args.other) c.in-Some.is ∙ ap (plus (Some c.in-Some.a)) c.in-Some-other.is)
