use Rattle.std.proofs.Common.{◌∙◌, ap}
use Rattle.std.specs.List.{list_any}
use Rattle.pam_conf.proofs.EndSteps.{any-end}
use Rattle.pam_conf.specs.Services.{ends}
use Rattle.pam_conf.proofs.service_names.has_left_end.Goals as goal

pub returns : goal.returns
returns c =
    c.has_end.ensures ∙ any-end c.args.name.now c.left_ends.result.now ∙ ap (list_any (ends c.args.name.now)) c.left_ends.ensures
