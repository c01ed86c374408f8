use Rattle.pam_paths.proofs.Trees.{from-tree}
use Rattle.pam_paths.proofs.explorer.Explorer.at.Goals as goal

pub returns-in-Ok-clause-stack : goal.returns-in-Ok-clause-stack
returns-in-Ok-clause-stack g c items is = from-tree _ _ _ items is c.args.direction _ _ (c.in-Ok.ensures.listing c.args.direction)

pub returns-in-Ok-clause-listing : goal.returns-in-Ok-clause-listing
returns-in-Ok-clause-listing g c = c.in-Ok.ensures.listing c.args.direction
