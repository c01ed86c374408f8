use Rattle.std.proofs.Common.{◌∙◌, sym, arith}
use Rattle.std.proofs.lemmas.List.{get_or_default}
use Rattle.pam_findings.proofs.HostProofs.Jumping.{share-later}
use Rattle.pam_findings.proofs.host.inside.share_other.Goals as goal

pub loop-depth-preserved : goal.loop-depth-preserved
loop-depth-preserved c =
    sym (share-later c.args.before.now c.args.after.now c.args.own.now c.loop-depth.depth _ (omega arith)
    (get_or_default c.args.before.now c.loop-depth.depth _ _ (omega arith))
    (sym c.has_at.ensures ∙ c.if-not-has_at.false) (sym c.has_at-in-loop-depth.ensures ∙ c.if-not-has_at-2.false))
    ∙ c.loop-depth.invariant
