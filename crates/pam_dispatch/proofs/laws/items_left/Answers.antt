use Rattle.std.proofs.Common.{arith, ◌-◌, ◌∙◌}
use Rattle.pam_dispatch.specs.Tree.{count}
use Rattle.pam_dispatch.proofs.OpenRuns.{count-items_after, left-fits}
use Rattle.pam_dispatch.proofs.laws.items_left.Goals as goal

pub returns-clause-fits : goal.returns-clause-fits
returns-clause-fits c = left-fits

pub returns-clause-count : goal.returns-clause-count
returns-clause-count c = λ left items fits. count-items_after (count items - left) items ∙ omega (arith, fits)
