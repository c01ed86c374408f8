use Rattle.std.proofs.Common.{◌∙◌, ap}
use Rattle.std.specs.List.{list_any}
use Rattle.std.specs.Str.{bytes_eq}
use Rattle.pam_facts.proofs.ArgumentProofs.ValueSteps.{any-now}
use Rattle.pam_facts.proofs.arguments.conditions.is_flag.Goals as goal

pub returns : goal.returns
returns c =
    c.is_listed.ensures ∙ any-now (bytes_eq c.args.word.now) c.flags.result.now ∙ ap (list_any (bytes_eq c.args.word.now)) c.flags.ensures
