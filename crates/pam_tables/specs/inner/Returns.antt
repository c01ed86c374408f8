-- For private contracts and proofs alone: returns files.
use Rattle.std.specs.Prelude.{◌≢◌, List, [], ◌∷◌}
use Rattle.pam_tables.specs.Returns.{ReturnLine}

-- every line has a code
abbrev pub HaveCodes : List ReturnLine → Type 0
HaveCodes [] = Unit {0}
HaveCodes (line ∷ lines) = (line.1 ≢ []) × HaveCodes lines
