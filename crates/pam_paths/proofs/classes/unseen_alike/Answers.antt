use Rattle.pam_paths.proofs.Sharing.{alike-seen}
use Rattle.pam_paths.proofs.classes.unseen_alike.Goals as goal

pub returns-then-is_empty : goal.returns-then-is_empty
returns-then-is_empty c other =
    alike-seen c.args.asked.now c.args.outcome.now c.args.part.now c.requires c.args.seen c.without.result c.empty.result c.without.ensures
    (c.is_empty.ensures.0 c.if-is_empty.true) c.empty.ensures other

pub returns : goal.returns
returns c other = c.codes_alike.ensures
