use Rattle.std.proofs.Common.{◌≡◌, map}
use Rattle.pam_report.specs.Finds.{Refuses}
use Rattle.pam_report.specs.Reply.{Answer}
use Rattle.pam_report.specs.declared.fault.Fault.{Fault}
use Rattle.pam_report.specs.declared.fault.Fault.TheVariants as faults
use Rattle.pam_report.specs.inner.Answer.{FindsFault}
use Rattle.pam_report.proofs.report.access.answer_login.Goals as goal

-- a fault that is found is that of the answer
refused : (fault : Fault) (answer : Answer) → FindsFault fault answer → Refuses (λ given. answer ≡ given) fault
refused (faults.Table e) answer h = h
refused (faults.Time e) answer h = h
refused (faults.Conf e) answer h = absurd h
refused (faults.Facts e) answer h = absurd h
refused (faults.Policy e) answer h = absurd h
refused (faults.Accept e) answer h = absurd h
refused (faults.Moment e) answer h = absurd h
refused (faults.Count e) answer h = absurd h
refused faults.TooManyStates answer h = absurd h
refused faults.NoSuchModule answer h = absurd h
refused faults.NoSuchKey answer h = absurd h
refused faults.NoSuchNumber answer h = absurd h
refused faults.NoSuchService answer h = absurd h
refused faults.UnusedCandidate answer h = absurd h
refused faults.Unread answer h = absurd h
refused (faults.Cursor e) answer h = absurd h
refused faults.Device answer h = absurd h
refused faults.Memory answer h = absurd h

pub returns-in-Err-clause-answer : goal.returns-in-Err-clause-answer
returns-in-Err-clause-answer c = refused c.in-Err.fault _ (c.in-Err.ensures.answer (map (λ n. n.now) c.args.names.now))
