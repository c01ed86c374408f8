use Rattle.std.proofs.Common.{◌++◌, List, drop, subst}
use Rattle.std.specs.Prelude.{IfOk}
use Rattle.pam_compare.specs.declared.held.HeldAnswer.{HeldAnswer}
use Rattle.pam_compare.specs.inner.HeldLists.{IsListed}
use Rattle.pam_compare.proofs.held_lists.HeldLists.number_after.Goals as goal

pub returns-clause-links : goal.returns-clause-links
returns-clause-links c held are is = c.extended.ensures.links _ are (c.without_last-kept.ensures held is)

pub returns-clause-listed : goal.returns-clause-listed
returns-clause-listed c held are is =
    let start = c.args.after.now.start in
    subst (λ (l : List HeldAnswer). IfOk c.extended.result (λ number. IsListed c.extended.new.self.links.keys number (l ++ drop start held)))
    c.deref.ensures.value (c.extended.ensures.listed _ are (c.without_last-kept.ensures held is))
