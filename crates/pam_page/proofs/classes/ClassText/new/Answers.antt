use Rattle.pam_page.proofs.SameSets.{no_text}
use Rattle.pam_page.proofs.classes.ClassText.new.Goals as goal

pub invariant_of-result : goal.invariant_of-result
invariant_of-result c = no_text _ _ c.empty.ensures c.in_ok-with_capacity.ensures
