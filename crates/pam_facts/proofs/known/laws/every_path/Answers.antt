use Rattle.pam_facts.proofs.KnownProofs.EveryPath.{narrowed, one_listing, one_path, one_verdict}
use Rattle.pam_facts.proofs.known.laws.every_path.Goals as goal

pub returns-clause-listing : goal.returns-clause-listing
returns-clause-listing c = one_listing

pub returns-clause-path : goal.returns-clause-path
returns-clause-path c = one_path

pub returns-clause-narrowed : goal.returns-clause-narrowed
returns-clause-narrowed c = narrowed

pub returns-clause-verdict : goal.returns-clause-verdict
returns-clause-verdict c = one_verdict
