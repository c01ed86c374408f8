-- The texts of the steps of a path, and the end of each.
use Rattle.pam_page.specs.declared.texts.KeptStep.{KeptStep}
use Rattle.pam_paths.specs.Paths.{StepValue}
use Rattle.pam_paths.specs.Steps.{step_seen}

-- the step that is kept
abbrev pub step_of : KeptStep → StepValue
step_of one = step_seen one.step
