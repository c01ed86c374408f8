use Rattle.pam_page.proofs.SameSets.{same_sets}
use Rattle.pam_page.proofs.classes.is_same.Goals as goal

pub returns-then-has_no_more : goal.returns-then-has_no_more
returns-then-has_no_more c same =
    same_sets c.args.class c.args.other c.requires.class c.requires.other (c.has_no_more.ensures c.if-has_no_more.true)
    (c.has_no_more-then-has_no_more.ensures same)
