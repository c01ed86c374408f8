use Rattle.pam_page.proofs.TailTexts.{no-alike}
use Rattle.pam_page.proofs.tail_texts.TailTexts.new.Goals as goal

pub invariant_of-result : goal.invariant_of-result
invariant_of-result c =
    no-alike _ _ _ c.in_ok-with_capacity-3.ensures.items c.in_ok-with_capacity.ensures c.in_ok-with_capacity-2.ensures
