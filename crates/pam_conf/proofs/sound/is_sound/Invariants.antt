use Rattle.std.proofs.Common.{◌≡◌, All, [], take}
use Rattle.pam_conf.specs.Survey.{faults_at}
use Rattle.pam_conf.proofs.sound.is_sound.Given as goal

-- the files so far have no fault
abbrev pub invariant-loop-file : goal.invariant-loop-file
invariant-loop-file l = All (λ file. faults_at l.rules file ≡ []) (take l.file-index l.survey.reached.items)
