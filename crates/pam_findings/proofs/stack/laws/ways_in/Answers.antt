use Rattle.pam_findings.proofs.StackProofs.Implied.{more_allowed, one_first, somebody_or_nobody, sound_stack}
use Rattle.pam_findings.proofs.stack.laws.ways_in.Goals as goal

pub returns-clause-either : goal.returns-clause-either
returns-clause-either c = somebody_or_nobody

pub returns-clause-more : goal.returns-clause-more
returns-clause-more c = more_allowed

pub returns-clause-one : goal.returns-clause-one
returns-clause-one c = one_first

pub returns-clause-sound : goal.returns-clause-sound
returns-clause-sound c = sound_stack
