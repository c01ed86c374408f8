use Rattle.std.proofs.Common.{◌∙◌, ap}
use Rattle.std.specs.List.{list_any}
use Rattle.pam_codes.specs.Code.{same_name}
use Rattle.pam_facts.proofs.ArgumentProofs.ValueSteps.{any-now}
use Rattle.pam_facts.proofs.arguments.conditions.is_test.Goals as goal

pub returns : goal.returns
returns c =
    c.is_any.ensures ∙ any-now (same_name c.args.word.now) c.tests.result.now ∙ ap (list_any (same_name c.args.word.now)) c.tests.ensures
