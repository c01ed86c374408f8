use Rattle.pam_compare.proofs.Possible.{possible-first}
use Rattle.pam_compare.proofs.naming.set_of_nothing.Goals as goal

pub returns-clause-possible : goal.returns-clause-possible
returns-clause-possible c a low = possible-first _ _ c.all.result a c.new-sets.ensures.items c.in_ok-push.ensures.items c.all.ensures low
