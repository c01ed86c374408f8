use Rattle.std.proofs.Common.{◌≡◌, drop, map}
use Rattle.pam_words.specs.Candidates.{are_candidates}
use Rattle.pam_words.specs.Wanted.{candidate_view}
use Rattle.pam_words.proofs.reading.candidates.are_candidates.Given as goal

-- those that are left are candidates if all are
abbrev pub invariant-loop-candidate : goal.invariant-loop-candidate
invariant-loop-candidate l =
    are_candidates l.has_conf (map candidate_view (drop l.candidate-index l.given)) ≡ are_candidates l.has_conf (map candidate_view l.given)
