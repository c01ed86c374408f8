use Rattle.pam_page.proofs.SameSets.{no_text}
use Rattle.pam_page.proofs.classes.ClassText.replace.Goals as goal

pub invariant_of-self-2 : goal.invariant_of-self-2
invariant_of-self-2 c = no_text _ _ c.empty-self-inside.ensures c.truncate-2.ensures
