-- the bytes so far, and the mended rest
use Rattle.std.proofs.Common.{◌≡◌, ◌++◌, drop}
use Rattle.pam_render.specs.patch_text.Mended.{mended}
use Rattle.pam_render.specs.patch_text.inner.Views.{mendings_view}
use Rattle.pam_render.proofs.patch_text.mended.mended.Given as goal

abbrev pub invariant-loop-mending : goal.invariant-loop-mending
invariant-loop-mending l =
    l.text.items ++ mended (mendings_view (drop l.mending-index l.mendings)) l.rest ≡ mended (mendings_view l.mendings) l.initial.rest
