use Rattle.std.proofs.Common.{◌∙◌, sym}
use Rattle.pam_policy.proofs.TextProofs.CodeSteps.{failure_added}
use Rattle.pam_policy.proofs.text.codes.with_item.Goals as goal

pub returns-then-is_name : goal.returns-then-is_name
returns-then-is_name c =
    failure_added c.args.codes c.args.item.now _ (sym c.is_name.ensures ∙ c.if-is_name.true) (rw c.failures.ensures at c.union.ensures)
