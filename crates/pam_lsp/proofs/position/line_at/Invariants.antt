-- the line is one of the rest
use Rattle.std.proofs.Common.{◌≡◌, ◌-◌}
use Rattle.pam_lsp.specs.Positions.{line_at}
use Rattle.pam_lsp.proofs.position.line_at.Given as goal

abbrev pub invariant-loop-turn : goal.invariant-loop-turn
invariant-loop-turn l = line_at (l.number - l.turn) l.rest ≡ line_at l.number l.fn.text
