use Rattle.std.proofs.Common.{◌≡◌, drop, map, not}
use Rattle.std.specs.Prelude.{find}
use Rattle.pam_report.specs.Candidates.{is_read}
use Rattle.pam_words.specs.Wanted.{candidate_view}
use Rattle.pam_report.proofs.candidates.first_unread.Given as goal

-- the first of the candidates that are left is the first of all
abbrev pub invariant-loop-candidate : goal.invariant-loop-candidate
invariant-loop-candidate l =
    find (λ name. not (is_read l.rules l.services name)) (map (λ c. c.0) (map candidate_view (drop l.candidate-index l.candidates)))
    ≡ find (λ name. not (is_read l.rules l.services name)) (map (λ c. c.0) (map candidate_view l.candidates))
