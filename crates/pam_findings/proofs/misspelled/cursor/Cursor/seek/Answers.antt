use Rattle.std.proofs.Common.{◌∙◌, ap, arith}
use Rattle.pam_findings.proofs.MisspelledProofs.Feeds.{one_more}
use Rattle.pam_findings.specs.misspelled.Spots.{after_feed}
use Rattle.pam_findings.proofs.misspelled.cursor.Cursor.seek.Goals as goal

pub loop-self-preserved : goal.loop-self-preserved
loop-self-preserved c =
    let kept = c.loop-self.invariant in
    record {
      at = c.after_feed-self.ensures ∙ ap after_feed kept.at ∙ one_more c.loop-self.self.passed _;
      same = kept.same;
      file = kept.file;
      before = omega (arith, c.loop-self-test.true);
    }
