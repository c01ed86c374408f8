use Rattle.pam_facts.proofs.KnownProofs.Listings.{same_listing, same_listing_after, same_listing_before}
use Rattle.pam_facts.proofs.known.laws.same_listing.Goals as goal

pub returns-clause-all : goal.returns-clause-all
returns-clause-all c = same_listing

pub returns-clause-after : goal.returns-clause-after
returns-clause-after c = same_listing_after

pub returns-clause-before : goal.returns-clause-before
returns-clause-before c = same_listing_before
