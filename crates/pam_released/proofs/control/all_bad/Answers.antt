use Rattle.std.proofs.Common.{◌∙◌, IfSome, None}
use Rattle.std.proofs.lemmas.List.Elements.{All-replicate}
use Rattle.pam_codes.specs.Action.{IsAction}
use Rattle.pam_released.proofs.ControlReading.{no_names}
use Rattle.pam_released.proofs.control.all_bad.Goals as goal

pub of-requires-clause-named : goal.of-requires-clause-named
of-requires-clause-named c = All-replicate (λ action. IfSome action IsAction) 31 None tt

pub returns : goal.returns
returns c = c.of.ensures ∙ no_names
