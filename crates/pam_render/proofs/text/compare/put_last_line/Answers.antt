use Rattle.std.proofs.Common.{codes}
use Rattle.std.specs.Prelude.{decimal}
use Rattle.pam_codes.proofs.Writing.{writes-is}
use Rattle.pam_render.specs.text.Check.{counted}
use Rattle.pam_render.specs.text.Compare.{last_line, only_count}
use Rattle.pam_render.proofs.TextProofs.CompareTexts.{parts-16}
use Rattle.pam_render.proofs.text.compare.put_last_line.Goals as goal

pub returns : goal.returns
unfolding last_line
returns g c =
    let n = c.args.counts in
    writes-is _ _ _ _ _ _ c.put_parts.ensures
    (parts-16 (codes "compared ") (counted c.args.stacks (codes "stack")) (codes ": ") (decimal n.equal) (codes " equal, ") (decimal n.same_decisions)
    (codes " with the same decisions, ") (decimal n.changed) (codes " changed, ") (decimal n.refused) (codes " refused, ") (decimal n.not_known)
    (codes " not known") (only_count n.only_in_old (codes " only in old")) (only_count n.only_in_new (codes " only in new")) (codes "\n"))
