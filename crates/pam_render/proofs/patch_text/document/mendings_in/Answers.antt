use Rattle.std.proofs.Common.{◌∙◌, ◌==◌, ap}
use Rattle.pam_render.proofs.PatchTextProofs.Lists.{map_filter}
use Rattle.pam_render.specs.patch_text.Mended.{Mending}
use Rattle.pam_render.specs.patch_text.inner.Views.{mending_view, mendings_view}
use Rattle.pam_render.proofs.patch_text.document.mendings_in.Goals as goal

pub returns : goal.returns
returns c =
    ap mendings_view c.in_ok-own.ensures ∙ map_filter mending_view (λ (m : Mending). m.file == c.args.file) c.args.mendings.now
