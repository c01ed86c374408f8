-- For private contracts and proofs alone: the verdict on codes, computed along their run; `Cursor` defines it.
use Rattle.std.specs.Prelude.{ℕ, ◌+◌, ◌==◌, if◌then◌else◌, List, [], ◌∷◌}
use Rattle.pam_dispatch.specs.Runs.{Runs, asks, ends, outcome_of}
use Rattle.pam_paths.specs.Classes.{class_of, least}
use Rattle.pam_paths.specs.Cursor.{Verdict, accepted, not_least, too_short, too_long}

-- a verdict found after `steps` further steps
abbrev pub further : ℕ → Verdict → Verdict
further steps accepted = accepted
further steps (not_least place) = not_least (steps + place)
further steps too_short = too_short
further steps too_long = too_long

-- the verdict on codes in an open run
unfoldable pub verdict_of : Runs → List ℕ → Verdict
verdict_of (ends s) [] = accepted
verdict_of (ends s) (code ∷ codes) = too_long
verdict_of (asks ask next) [] = too_short
verdict_of (asks ask next) (code ∷ codes) =
    if least (class_of ask code) == code then further 1 (verdict_of (next (outcome_of ask code)) codes)
    else not_least 1
