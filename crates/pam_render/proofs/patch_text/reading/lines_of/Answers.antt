use Rattle.std.proofs.Common.{◌∙◌}
use Rattle.pam_render.proofs.PatchTextProofs.Lists.{map_map}
use Rattle.pam_render.specs.patch_text.Mended.{Mending}
use Rattle.pam_render.specs.patch_text.inner.Views.{mending_view}
use Rattle.pam_render.proofs.patch_text.reading.lines_of.Goals as goal

pub returns : goal.returns
returns c = c.in_ok-lines.ensures ∙ map_map (λ (m : Mending). m.line) mending_view c.args.mendings.now
