-- The steps of a path, as a caller sees them: pam.conf(5), DESCRIPTION.
use Rattle.pam_paths.specs.declared.path.PathStep.{PathStep}
use Rattle.pam_paths.specs.Paths.{StepValue}

-- the value of a step
abbrev pub step_seen : PathStep → StepValue
step_seen step = record { module_number = step.number; class = step.class }
