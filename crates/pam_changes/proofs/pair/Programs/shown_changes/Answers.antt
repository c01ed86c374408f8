use Rattle.pam_compare.specs.declared.change.Change.TheVariants.{Admits, Refuses, Tells}
use Rattle.pam_changes.proofs.pair.Programs.shown_changes.Goals as goal

pub returns : goal.returns
returns c old_allows new_allows are = record {
  admits = c.in_ok-admits.ensures old_allows new_allows Admits are.admits;
  refuses = c.in_ok-refuses.ensures old_allows new_allows Refuses are.refuses;
  tells = c.in_ok-tells.ensures old_allows new_allows Tells are.tells;
}
