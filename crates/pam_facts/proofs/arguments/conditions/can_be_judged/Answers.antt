use Rattle.std.proofs.Common.{◌∙◌, ap}
use Rattle.pam_facts.specs.arguments.Conditions.{can_be_judged}
use Rattle.pam_facts.specs.arguments.inner.Conditions.{go_on}
use Rattle.pam_facts.specs.declared.arguments.conditions.Part.TheVariants.{Field}
use Rattle.pam_facts.proofs.ArgumentProofs.ConditionSteps.{all_go_on}
use Rattle.pam_facts.proofs.arguments.conditions.can_be_judged.Goals as goal

pub loop-word-init : goal.loop-word-init
unfolding can_be_judged
loop-word-init c = record {
  can = tt;
  finite = tt;
  same = ap (go_on Field) (c.into_iter-word-iterator.ensures.into_iter_gives ∙ c.iter-word-items.ensures) ∙ all_go_on c.args.words.now;
}
