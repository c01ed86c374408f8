use Rattle.std.proofs.Common.{◌≡◌, [], map, take}
use Rattle.std.specs.Option.{option_map, option_map_or}
use Rattle.pam_findings.specs.misspelled.Findings.{misspelled_at}
use Rattle.pam_findings.specs.misspelled.MisspelledView.{misspelled_view}
use Rattle.pam_findings.specs.misspelled.Cursors.{IsAt}
use Rattle.pam_findings.specs.misspelled.inner.Reading.{IsReading}
use Rattle.pam_findings.proofs.misspelled.findings.misspelled_words.Given as goal

-- the words at the findings so far
abbrev pub invariant-loop-entry : goal.invariant-loop-entry
invariant-loop-entry l = record {
  reading : IsReading l.reader;
  same : l.reader.files.now ≡ l.files;
  at : IsAt l.cursor;
  still : l.cursor.files.now ≡ l.files;
  words : map (option_map misspelled_view) l.words.items ≡ map (misspelled_at l.files (option_map (λ t. t.now) l.there) l.outside
      (option_map_or (λ d. d.now) l.dead [])) (take l.entry-index l.found);
}
