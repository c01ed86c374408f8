-- the mendings so far, and those of the rest
use Rattle.std.proofs.Common.{◌≡◌, ◌++◌, drop}
use Rattle.pam_render.specs.patch_text.Mended.{kept}
use Rattle.pam_render.specs.patch_text.inner.Views.{mendings_view}
use Rattle.pam_render.proofs.patch_text.reading.kept.Given as goal

abbrev pub invariant-loop-mending : goal.invariant-loop-mending
invariant-loop-mending l =
    mendings_view l.kept.items ++ kept l.rest (mendings_view (drop l.mending-index l.mendings)) ≡ kept l.initial.rest (mendings_view l.mendings)
