use Rattle.std.proofs.Common.{refl}
use Rattle.pam_compare.specs.declared.change.Change.TheVariants.{Admits, Refuses, Tells}
use Rattle.pam_compare.proofs.nodes.Found.new.Goals as goal

pub returns : goal.returns
returns c Admits = refl
returns c Refuses = refl
returns c Tells = refl
