-- the candidates that are left have the name as all do
use Rattle.std.proofs.Common.{◌≡◌, drop, map}
use Rattle.pam_cli.specs.Links.{is_candidate}
use Rattle.pam_words.specs.Wanted.{candidate_view}
use Rattle.pam_cli.proofs.reading.links.is_candidate.Given as goal

abbrev pub invariant-loop-candidate : goal.invariant-loop-candidate
invariant-loop-candidate l =
    is_candidate l.name (map candidate_view (drop l.candidate-index l.candidates)) ≡ is_candidate l.name (map candidate_view l.candidates)
