-- the candidates so far are read
use Rattle.std.proofs.Common.{map, take}
use Rattle.pam_cli.specs.Sources.{IsOfCandidates}
use Rattle.pam_words.specs.Wanted.{candidate_view}
use Rattle.pam_cli.proofs.reading.sources.candidate_files.Given as goal

abbrev pub invariant-loop-candidate : goal.invariant-loop-candidate
invariant-loop-candidate g l =
    IsOfCandidates (g.S.System.told l.fn.system) (map candidate_view (take l.candidate-index l.candidates)) l.fn.folder l.found.files l.found.paths
