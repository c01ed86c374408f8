use Rattle.std.proofs.Common.{◌≡◌, length}
use Rattle.pam_dispatch.specs.Flat.{IsPlaceOf, modules_of, rest_of, runs_of}
use Rattle.pam_dispatch.specs.Runs.{AsksRise, answers_of, asked_by, final_state}
use Rattle.pam_dispatch.proofs.program.Program.decision_by.Given as goal

abbrev pub invariant-loop-number : goal.invariant-loop-number
invariant-loop-number l = record {
  place : IsPlaceOf l.self l.place;
  rise : AsksRise 0 (modules_of l.self) (rest_of l.self l.place);
  same : final_state (rest_of l.self l.place) (answers_of l.codes) ≡ final_state (runs_of l.self) (answers_of l.codes);
}

abbrev pub decreases-loop-number : goal.decreases-loop-number
decreases-loop-number l = length (asked_by (rest_of l.self l.place) (answers_of l.codes))
