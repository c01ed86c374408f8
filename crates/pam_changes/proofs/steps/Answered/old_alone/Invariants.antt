use Rattle.std.proofs.Common.{◌≡◌, filter, not, take}
use Rattle.std.specs.List.{list_any}
use Rattle.pam_dispatch.specs.Runs.{answers_of}
use Rattle.pam_changes.specs.Steps.{is_number, one_with}
use Rattle.pam_changes.proofs.steps.Answered.old_alone.Given as goal

abbrev pub invariant-loop-number : goal.invariant-loop-number
invariant-loop-number l =
    l.alone.items ≡ filter (λ number. not (list_any (λ other. is_number number
    (one_with l.self.matching.now (answers_of l.self.old_codes.now) (answers_of l.self.new_codes.now) other)) l.shown))
    (take l.number-index l.old_asked)
