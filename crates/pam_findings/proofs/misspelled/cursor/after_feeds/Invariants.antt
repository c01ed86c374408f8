-- as many line feeds as were counted are passed
use Rattle.std.proofs.Common.{◌≡◌}
use Rattle.pam_findings.specs.misspelled.Spots.{after_feeds}
use Rattle.pam_findings.proofs.misspelled.cursor.after_feeds.Given as goal

abbrev pub invariant-loop : goal.invariant-loop
invariant-loop l = l.rest ≡ after_feeds l.counter l.bytes
