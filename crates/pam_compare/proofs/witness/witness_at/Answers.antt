use Rattle.pam_compare.proofs.witness.witness_at.Goals as goal

pub witness_to-requires-clause-end : goal.witness_to-requires-clause-end
witness_to-requires-clause-end c = c.requires.end c.in-Some.index c.in-Some.is
