-- For private contracts and proofs alone: the outcomes of a code in two stacks that run side by side.
use Rattle.std.specs.Prelude.{◌≡◌, ℕ}
use Rattle.pam_dispatch.specs.Runs.{Runs, outcome_in}
use Rattle.pam_compare.specs.declared.node.Outcomes.{Outcomes}
use Rattle.pam_compare.specs.declared.turn.Turn.{Turn}
use Rattle.pam_compare.specs.declared.turn.Turn.TheVariants.{Old, New, Both}

-- the outcomes of a code in each stack whose turn it is
abbrev pub AreOutcomes : Turn → Runs → Runs → ℕ → Outcomes → Type 0
AreOutcomes (Old i) left right code o = outcome_in left code ≡ o.old
AreOutcomes (New j) left right code o = outcome_in right code ≡ o.new
AreOutcomes (Both i j) left right code o = (outcome_in left code ≡ o.old) × (outcome_in right code ≡ o.new)
