-- that of the mendings so far
use Rattle.std.proofs.Common.{◌≡◌, fold, min, take}
use Rattle.pam_render.specs.patch_text.inner.Views.{mendings_view}
use Rattle.pam_render.proofs.patch_text.hunk.first_of.Given as goal

abbrev pub invariant-loop-mending : goal.invariant-loop-mending
invariant-loop-mending l = l.least ≡ fold (λ so_far m. min so_far m.at) l.initial.least (mendings_view (take l.mending-index l.mendings))
