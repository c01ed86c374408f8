-- line feeds are passed one by one
use Rattle.std.proofs.Common.{◌≡◌, ◌≤◌, ◌-◌}
use Rattle.pam_findings.specs.misspelled.Cursors.{IsAt}
use Rattle.pam_findings.proofs.misspelled.cursor.Cursor.seek.Given as goal

abbrev pub invariant-loop-self : goal.invariant-loop-self
invariant-loop-self l = record {
  at : IsAt l.self;
  same : l.self.files ≡ l.fn.self.files;
  file : l.self.file ≡ l.fn.file;
  before : l.self.passed ≤ l.feeds;
}

abbrev pub decreases-loop-self : goal.decreases-loop-self
decreases-loop-self l = l.feeds - l.self.passed
