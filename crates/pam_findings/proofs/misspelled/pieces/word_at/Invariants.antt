-- the word that is sought is among the words to come
use Rattle.std.proofs.Common.{◌≡◌, ◌≤◌, ◌-◌, ◌+◌, length}
use Rattle.std.specs.Option.{option_map}
use Rattle.pam_conf.specs.Remaining.{words_left, words_to_come}
use Rattle.pam_findings.specs.misspelled.Pieces.{piece_at}
use Rattle.pam_findings.proofs.MisspelledProofs.Pieces.{shifted}
use Rattle.pam_findings.proofs.misspelled.pieces.word_at.Given as goal

abbrev pub invariant-loop : goal.invariant-loop
invariant-loop l = record {
  few : l.counter ≤ l.number;
  moved : l.passed + length l.rest ≡ length l.line;
  words : words_to_come l.words ≡ words_left l.rest;
  there : option_map (shifted l.passed) (piece_at words_left (l.number - l.counter) l.rest) ≡ piece_at words_left l.number l.line;
}
