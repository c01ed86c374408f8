use Rattle.pam_codes.proofs.ControlParts.{IsControl-set, IsControl-replicate}
use Rattle.pam_codes.proofs.control.Control.keyword.Goals as goal

pub invariant_of-result : goal.invariant_of-result
invariant_of-result c =
    IsControl-set _ _ _
    (IsControl-set _ _ _ (IsControl-set _ _ _ (IsControl-replicate c.args.other c.requires.other) c.requires.granted) c.requires.granted) tt
