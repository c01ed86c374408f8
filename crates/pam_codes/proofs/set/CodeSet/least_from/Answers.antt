use Rattle.pam_codes.proofs.SetAlgebra.{FirstFrom, first_from, first-found, first-before, first-none}
use Rattle.pam_codes.proofs.set.CodeSet.least_from.Goals as goal

first : (c : goal.After-least) → FirstFrom c.args.first c.args.self c.least.result
first c = rw (c.least.ensures.first, c.bits_below.ensures, ← c.self.view_is) (first_from c.self.inside.bits c.args.first)

pub returns-clause-found : goal.returns-clause-found
returns-clause-found c = first-found c.args.first c.args.self c.least.result (first c)

pub returns-clause-before : goal.returns-clause-before
returns-clause-before c = first-before c.args.first c.args.self c.least.result (first c)

pub returns-clause-none : goal.returns-clause-none
returns-clause-none c = first-none c.args.first c.args.self c.least.result (first c)
