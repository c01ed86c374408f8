use Rattle.std.proofs.Common.{◌≡◌, ◌≤◌, length}
use Rattle.pam_findings.specs.misspelled.Lines.{line_of}
use Rattle.pam_findings.specs.misspelled.inner.Reading.{IsReading, if_last}
use Rattle.pam_findings.proofs.misspelled.reader.Reader.seek.Given as goal

-- the line that is sought is not passed without being kept
abbrev pub invariant-loop-self : goal.invariant-loop-self
invariant-loop-self l = record {
  reading : IsReading l.self;
  same : l.self.files ≡ l.fn.self.files;
  file : l.self.file ≡ l.fn.file;
  sought : l.number ≤ l.self.number → line_of l.fn.self.files.now l.fn.file l.number ≡ if_last l.number l.self.number l.self.line.items;
}

abbrev pub decreases-loop-self : goal.decreases-loop-self
decreases-loop-self l = length l.self.text.rest.now
