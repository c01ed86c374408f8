use Rattle.std.proofs.Common.{◌∙◌, sym}
use Rattle.pam_facts.proofs.KnownProofs.ReaderSteps.{told_alone}
use Rattle.pam_facts.proofs.known.knowledge.Lookup.codes_of.Goals as goal

pub returns-then-is_told : goal.returns-then-is_told
returns-then-is_told c = told_alone _ _ (sym c.is_told.ensures ∙ c.if-is_told.true)
