use Rattle.std.proofs.Common.{◌≡◌, filter}
use Rattle.std.specs.List.{range_with_len}
use Rattle.pam_dispatch.specs.Runs.{answers_of}
use Rattle.pam_changes.specs.Steps.{is_shown}
use Rattle.pam_changes.proofs.steps.Answered.shown_new.Given as goal

abbrev pub invariant-loop-index : goal.invariant-loop-index
invariant-loop-index l =
    l.shown.items
    ≡ filter (is_shown l.self.matching.now (answers_of l.self.old_codes.now) (answers_of l.self.new_codes.now) l.old_asked l.new_asked)
    (range_with_len 1 l.index)
