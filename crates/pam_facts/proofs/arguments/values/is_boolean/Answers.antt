use Rattle.std.proofs.Common.{◌∙◌, ap}
use Rattle.std.specs.List.{list_any}
use Rattle.pam_codes.specs.Code.{same_name}
use Rattle.pam_facts.proofs.ArgumentProofs.ValueSteps.{any-now}
use Rattle.pam_facts.proofs.arguments.values.is_boolean.Goals as goal

pub returns : goal.returns
returns c =
    c.is_any.ensures ∙ any-now (same_name c.args.value.now) c.booleans.result.now ∙ ap (list_any (same_name c.args.value.now)) c.booleans.ensures
