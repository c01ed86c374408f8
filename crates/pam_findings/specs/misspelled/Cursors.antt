-- Bytes of a file after some of its line feeds.
use Rattle.std.specs.Prelude.{◌≡◌}
use Rattle.pam_findings.specs.misspelled.Lines.{bytes_of}
use Rattle.pam_findings.specs.misspelled.Spots.{after_feeds}
use Rattle.pam_findings.specs.declared.misspelled.cursor.Cursor.{Cursor}

abbrev pub IsAt : Cursor → Type 0
IsAt cursor = cursor.rest.now ≡ after_feeds cursor.passed (bytes_of cursor.files.now cursor.file)
