use Rattle.std.proofs.Common.{◌∙◌, ap}
use Rattle.pam_findings.proofs.MisspelledProofs.Feeds.{one_more}
use Rattle.pam_findings.specs.misspelled.Spots.{after_feed}
use Rattle.pam_findings.proofs.misspelled.cursor.after_feeds.Goals as goal

pub loop-preserved : goal.loop-preserved
loop-preserved c = c.after_feed-rest.ensures ∙ ap after_feed c.loop.invariant ∙ one_more c.loop.counter c.args.bytes.now
