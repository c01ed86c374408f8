use Rattle.pam_compare.proofs.Growing.{links-none}
use Rattle.pam_compare.proofs.held_lists.HeldLists.new.Goals as goal

pub returns : goal.returns
returns c = links-none _ c.new.ensures.empty
