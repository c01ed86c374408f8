use Rattle.std.proofs.Common.{◌∙◌}
use Rattle.pam_conf.specs.Rule.{rule_view}
use Rattle.pam_render.proofs.PatchTextProofs.Lists.{filter_map_view}
use Rattle.pam_render.specs.patch_text.Mended.{module_line}
use Rattle.pam_render.proofs.patch_text.reading.module_lines.Goals as goal

pub returns : goal.returns
returns c = c.in_ok-lines.ensures ∙ filter_map_view module_line rule_view c.args.rules.now
