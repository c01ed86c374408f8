-- that of the mendings so far
use Rattle.std.proofs.Common.{◌≡◌, fold, max, take}
use Rattle.pam_render.specs.patch_text.inner.Views.{mendings_view}
use Rattle.pam_render.proofs.patch_text.hunk.last_of.Given as goal

abbrev pub invariant-loop-mending : goal.invariant-loop-mending
invariant-loop-mending l = l.most ≡ fold (λ so_far m. max so_far m.at) l.initial.most (mendings_view (take l.mending-index l.mendings))
