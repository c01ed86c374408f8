-- the place is one of the program; the modules so far with those of the rest of the run are all modules
use Rattle.std.proofs.Common.{◌≡◌, ◌++◌, length}
use Rattle.pam_dispatch.specs.Flat.{IsPlaceOf, rest_of, runs_of}
use Rattle.pam_dispatch.specs.Runs.{answers_of, asked_by}
use Rattle.pam_changes.specs.Steps.{asked_numbers}
use Rattle.pam_changes.proofs.steps.asked_numbers.Given as goal

abbrev pub invariant-loop-number : goal.invariant-loop-number
invariant-loop-number l = record {
  place : IsPlaceOf l.program l.place;
  numbers : l.numbers.items ++ asked_numbers (rest_of l.program l.place) (answers_of l.codes) ≡ asked_numbers (runs_of l.program) (answers_of l.codes);
}

abbrev pub decreases-loop-number : goal.decreases-loop-number
decreases-loop-number l = length (asked_by (rest_of l.program l.place) (answers_of l.codes))
