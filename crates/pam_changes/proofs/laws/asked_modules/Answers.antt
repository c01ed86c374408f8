use Rattle.pam_changes.proofs.PairsShown.{any_shown_once, of_pair_shown_once}
use Rattle.pam_changes.proofs.laws.asked_modules.Goals as goal

pub returns : goal.returns
returns c = record {
  asked = any_shown_once;
  pair = of_pair_shown_once;
}
