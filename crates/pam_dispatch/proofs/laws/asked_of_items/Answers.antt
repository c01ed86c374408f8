use Rattle.std.proofs.Common.{List, ◌∷◌, ◌-◌, ap, refl}
use Rattle.pam_dispatch.specs.Runs.{Ask, outcome_of}
use Rattle.pam_dispatch.specs.Tree.{ask_of, asked_after, count}
use Rattle.pam_dispatch.proofs.OpenRuns.{asked_after-items_after}
use Rattle.pam_dispatch.proofs.laws.asked_of_items.Goals as goal

pub returns-clause-nothing : goal.returns-clause-nothing
unfolding asked_after
returns-clause-nothing c = λ s entry answers. refl

pub returns-clause-substack : goal.returns-clause-substack
unfolding asked_after
returns-clause-substack c = λ sub inner rest s entry answers. refl

pub returns-clause-module : goal.returns-clause-module
unfolding asked_after
returns-clause-module c = λ m rest s entry answers.
    let outcome = outcome_of (ask_of m rest s entry) (answers m.number) in
    ap (λ (x : List Ask). ask_of m rest s entry ∷ x)
    (asked_after-items_after (count rest - outcome.left) rest outcome.state entry answers)
