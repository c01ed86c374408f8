use Rattle.pam_changes.proofs.Alike.{equal-alike, known-alike}
use Rattle.pam_changes.proofs.Guarding.{guarding-alike}
use Rattle.pam_changes.proofs.laws.same_items.Goals as goal

pub returns : goal.returns
returns c = record {
  known = known-alike;
  equal = equal-alike;
  guards = guarding-alike;
}
