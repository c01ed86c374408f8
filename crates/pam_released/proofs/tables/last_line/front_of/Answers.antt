use Rattle.std.proofs.Common.{◌∙◌, ap, sym}
use Rattle.pam_released.specs.tables.inner.Pieces.{front_of}
use Rattle.pam_released.proofs.TablesProofs.LastLine.{front_is, no_front}
use Rattle.pam_released.proofs.tables.last_line.front_of.Goals as goal

pub returns-in-Some : goal.returns-in-Some
returns-in-Some c = sym (ap front_of c.in-Some.ensures.cases.0 ∙ front_is c.in-Some.front.now _)

pub returns-in-None : goal.returns-in-None
returns-in-None c = sym (no_front c.args.text.now c.in-None.ensures.cases)
