-- What a call gives that finds an answer.
use Rattle.std.specs.Prelude.{◌≡◌, ⊤, None, Result, Ok, Err}
use Rattle.pam_conf.specs.declared.error.FaultKind.{FaultKind}
use Rattle.pam_conf.specs.declared.error.FaultKind.TheVariants as conf
use Rattle.pam_conf.specs.declared.conf_error.ConfError.{ConfError}
use Rattle.pam_facts.specs.declared.known.error.NumberedError.{NumberedError}
use Rattle.pam_tables.specs.declared.error.TableFault.{TableFault}
use Rattle.pam_tables.specs.declared.error.TableFault.TheVariants as reasons
use Rattle.pam_tables.specs.declared.times.error.TimeError.{TimeError}
use Rattle.pam_tables.specs.declared.times.error.TimeFault.{TimeFault}
use Rattle.pam_tables.specs.declared.times.error.TimeFault.TheVariants as times
use Rattle.pam_report.specs.Reply.{Answer}
use Rattle.pam_report.specs.ReplyViews.{reply_view}
use Rattle.pam_report.specs.declared.fault.Fault.{Fault}
use Rattle.pam_report.specs.declared.fault.Fault.TheVariants as faults
use Rattle.pam_report.specs.declared.report.replies.Reply.{Reply}

-- a fault is that of the answer, unless an allocation failed, which has no place
abbrev pub IsConfFault : (Answer → Type 0) → ConfError → FaultKind → Type 0
IsConfFault IsAnswer error conf.Memory = error ≡ record { kind = conf.Memory; at = None; line = 0 }
IsConfFault IsAnswer error _ = IsAnswer (Err (faults.Conf error))

abbrev pub IsTableFault : (Answer → Type 0) → NumberedError → TableFault → Type 0
IsTableFault IsAnswer error reasons.Memory = error.error.line ≡ 0
IsTableFault IsAnswer error _ = IsAnswer (Err (faults.Table error))

abbrev pub IsTimeFault : (Answer → Type 0) → TimeError → TimeFault → Type 0
IsTimeFault IsAnswer error times.Memory = error.line ≡ 0
IsTimeFault IsAnswer error _ = IsAnswer (Err (faults.Time error))

abbrev pub Refuses : (Answer → Type 0) → Fault → Type 0
Refuses IsAnswer faults.Device = ⊥
Refuses IsAnswer faults.Memory = ⊤
Refuses IsAnswer (faults.Conf e) = IsConfFault IsAnswer e e.kind
Refuses IsAnswer (faults.Count e) = IsAnswer (Err (faults.Count e))
Refuses IsAnswer faults.TooManyStates = IsAnswer (Err faults.TooManyStates)
Refuses IsAnswer faults.NoSuchModule = IsAnswer (Err faults.NoSuchModule)
Refuses IsAnswer faults.NoSuchKey = IsAnswer (Err faults.NoSuchKey)
Refuses IsAnswer (faults.Facts e) = IsAnswer (Err (faults.Facts e))
Refuses IsAnswer (faults.Policy e) = IsAnswer (Err (faults.Policy e))
Refuses IsAnswer (faults.Accept e) = IsAnswer (Err (faults.Accept e))
Refuses IsAnswer faults.NoSuchNumber = IsAnswer (Err faults.NoSuchNumber)
Refuses IsAnswer faults.NoSuchService = IsAnswer (Err faults.NoSuchService)
Refuses IsAnswer faults.UnusedCandidate = IsAnswer (Err faults.UnusedCandidate)
Refuses IsAnswer faults.Unread = IsAnswer (Err faults.Unread)
Refuses IsAnswer (faults.Moment e) = IsAnswer (Err (faults.Moment e))
Refuses IsAnswer (faults.Cursor e) = ⊥
Refuses IsAnswer (faults.Table e) = IsTableFault IsAnswer e e.error.fault
Refuses IsAnswer (faults.Time e) = IsTimeFault IsAnswer e e.fault

-- the reply of an answer that satisfies a relation, or its fault, unless an allocation failed
abbrev pub Finds : Result Reply Fault → (Answer → Type 0) → Type 0
Finds (Ok reply) IsAnswer = IsAnswer (Ok (reply_view reply))
Finds (Err fault) IsAnswer = Refuses IsAnswer fault
