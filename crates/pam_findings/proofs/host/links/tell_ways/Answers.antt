use Rattle.std.proofs.Common.{arith}
use Rattle.std.proofs.lemmas.Grind.{common_steps}
use Rattle.std.proofs.lemmas.List.Edits.{map_over_more}
use Rattle.pam_findings.specs.host.Links.{told_way}
use Rattle.pam_findings.proofs.host.links.tell_ways.Goals as goal

pub loop-way-preserved : goal.loop-way-preserved
loop-way-preserved c = grind (arith, common_steps, map_over_more (told_way c.args.outside.now))
