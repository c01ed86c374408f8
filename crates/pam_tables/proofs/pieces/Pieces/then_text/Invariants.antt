use Rattle.std.proofs.Common.{◌≡◌, codes, length}
use Rattle.std.specs.List.{slice_split}
use Rattle.pam_tables.specs.Lines.{is_among}
use Rattle.pam_tables.specs.Address.{pieces_in}
use Rattle.pam_tables.specs.inner.Address.{more_pieces}
use Rattle.pam_tables.proofs.pieces.Pieces.then_text.Given as goal

abbrev pub invariant-loop-front : goal.invariant-loop-front
invariant-loop-front l =
    more_pieces l.pieces.number l.pieces.count (pieces_in l.ends_in_v4 (slice_split (is_among (codes ":")) l.rest))
    ≡ more_pieces l.initial.pieces.number l.initial.pieces.count (pieces_in l.ends_in_v4 (slice_split (is_among (codes ":")) l.text))

abbrev pub decreases-loop-front : goal.decreases-loop-front
decreases-loop-front l = length l.rest
