use Rattle.std.proofs.Common.{arith}
use Rattle.std.proofs.lemmas.List.{length-map}
use Rattle.pam_conf.specs.Rule.{rule_view}
use Rattle.pam_render.proofs.patch_text.reading.count_of.Goals as goal

pub returns : goal.returns
returns c = omega (arith, length-map c.args.rules.now rule_view)
