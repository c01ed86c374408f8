use Rattle.pam_conf.proofs.LimitLemmas.{faults-few, next-follow_refused, next-module_refused, within-allowed}
use Rattle.pam_conf.proofs.laws.refusals.Goals as goal

pub returns : goal.returns
returns c = record {
  allowed = within-allowed;
  one_more_module = next-module_refused;
  one_more_follow = next-follow_refused;
  faults = faults-few;
}
