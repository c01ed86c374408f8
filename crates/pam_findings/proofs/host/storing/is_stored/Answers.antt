use Rattle.std.proofs.Common.{◌∙◌, sym}
use Rattle.std.proofs.lemmas.Bool.{false≢true}
use Rattle.pam_findings.proofs.host.storing.is_stored.Goals as goal

pub returns-then-not-stores_at-clause-yes : goal.returns-then-not-stores_at-clause-yes
returns-then-not-stores_at-clause-yes c e = absurd (false≢true e)

pub returns-then-not-stores_at-clause-no : goal.returns-then-not-stores_at-clause-no
returns-then-not-stores_at-clause-no c e s = false≢true (sym c.if-not-stores_at.true ∙ c.stores_at.ensures ∙ s.stores)

pub returns-clause-yes : goal.returns-clause-yes
returns-clause-yes c e = record { stores = sym c.stores_at.ensures ∙ c.if-not-stores_at.false; fails = c.in_ok-fails.ensures.yes e }

pub returns-clause-no : goal.returns-clause-no
returns-clause-no c e s = c.in_ok-fails.ensures.no e s.fails
