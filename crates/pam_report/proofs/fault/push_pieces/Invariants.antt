-- the pieces so far are written after the text
use Rattle.std.proofs.Common.{◌≡◌, ◌++◌, take}
use Rattle.pam_codes.specs.Line.{line_text}
use Rattle.pam_report.proofs.fault.push_pieces.Given as goal

abbrev pub invariant-loop-piece : goal.invariant-loop-piece
invariant-loop-piece l = l.text.items ≡ l.initial.text.items ++ line_text (take l.piece-index l.pieces)
