-- the set so far has the codes of the items so far
use Rattle.std.proofs.Common.{map}
use Rattle.pam_policy.proofs.TextProofs.CodeSteps.{HasCodesOf}
use Rattle.pam_policy.proofs.text.codes.codes_of_items.Given as goal

abbrev pub invariant-loop-item : goal.invariant-loop-item
invariant-loop-item l = HasCodesOf l.codes (map (λ item. item.now) l.yielded)
