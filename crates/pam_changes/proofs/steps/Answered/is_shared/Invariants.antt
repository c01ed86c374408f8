use Rattle.std.proofs.Common.{◌≡◌, drop}
use Rattle.std.specs.List.{list_any}
use Rattle.pam_dispatch.specs.Runs.{answers_of}
use Rattle.pam_changes.specs.Steps.{is_number, one_with}
use Rattle.pam_changes.proofs.steps.Answered.is_shared.Given as goal

-- the modules that are left
abbrev pub invariant-loop-other : goal.invariant-loop-other
invariant-loop-other l =
    list_any (λ other. is_number l.number (one_with l.self.matching.now (answers_of l.self.old_codes.now) (answers_of l.self.new_codes.now) other))
    (drop l.other-index l.shown)
    ≡ list_any (λ other. is_number l.number (one_with l.self.matching.now (answers_of l.self.old_codes.now) (answers_of l.self.new_codes.now) other)) l.shown
