use Rattle.std.proofs.Common.{refl}
use Rattle.pam_dispatch.specs.Tree.{run_after}
use Rattle.pam_dispatch.proofs.OpenRuns.{run_after-items_after}
use Rattle.pam_dispatch.proofs.laws.run_of_items.Goals as goal

pub returns-clause-nothing : goal.returns-clause-nothing
unfolding run_after
returns-clause-nothing c = λ s entry answers. refl

pub returns-clause-substack : goal.returns-clause-substack
unfolding run_after
returns-clause-substack c = λ sub inner rest s entry answers. refl

pub returns-clause-module : goal.returns-clause-module
unfolding run_after
returns-clause-module c = λ m rest s entry answers. run_after-items_after _ rest _ entry answers
