-- the place is one of the program; the modules so far with those of the rest of the run are all modules, and the rest ends
-- like the run
use Rattle.std.proofs.Common.{◌≡◌, ◌++◌, length, map}
use Rattle.pam_dispatch.specs.Flat.{IsPlaceOf, modules_of, rest_of, runs_of}
use Rattle.pam_dispatch.specs.Runs.{AsksRise, answers_of, asked_by, final_state}
use Rattle.pam_report.specs.Decide.{asked_modules}
use Rattle.pam_report.specs.ReplyViews.{asked_view}
use Rattle.pam_report.proofs.report.trace.Trace.of.Given as goal

abbrev pub invariant-loop-number : goal.invariant-loop-number
invariant-loop-number l =
    let answers = answers_of l.codes in
    let rest = rest_of l.program l.place in
    record {
      place : IsPlaceOf l.program l.place;
      rise : AsksRise 0 (modules_of l.program) rest;
      modules : map asked_view l.asked.items ++ asked_modules l.stack answers (asked_by rest answers)
          ≡ asked_modules l.stack answers (asked_by (runs_of l.program) answers);
      same : final_state rest answers ≡ final_state (runs_of l.program) answers;
    }

abbrev pub decreases-loop-number : goal.decreases-loop-number
decreases-loop-number l = length (asked_by (rest_of l.program l.place) (answers_of l.codes))
