use Rattle.pam_words.specs.Wanted.{candidate_view}
use Rattle.pam_cli.proofs.Candidates.{next_one}
use Rattle.pam_cli.proofs.reading.sources.candidate_files.Goals as goal

pub loop-candidate-preserved : goal.loop-candidate-preserved
loop-candidate-preserved g c =
    next_one (g.S.System.told c.args.system.now) candidate_view c.args.candidates.now c.loop-candidate.candidate-index _ c.loop-candidate-test.true
    c.args.folder.now c.loop-candidate.found c.put_candidate.new.found c.loop-candidate.invariant c.in_ok-put_candidate.ensures
