use Rattle.std.proofs.Common.{◌∙◌, [], refl}
use Rattle.pam_graph.specs.Goals.{meeting, meets}
use Rattle.pam_graph.proofs.Paging.{goes-back, meeting-back}
use Rattle.pam_graph.proofs.Turning.{meeting-after}
use Rattle.pam_graph.proofs.laws.pages.Goals as goal
use Rattle.pam_paths.specs.Pages.{after, before}
use Rattle.pam_paths.specs.Paths.{key}
use Rattle.pam_paths.proofs.PageProofs.{pages_front, split_after}
use Rattle.pam_paths.proofs.Parts.{kept-rising}
use Rattle.std.proofs.Common.{sym}

pub returns-clause-after : goal.returns-clause-after
returns-clause-after c wanted allows n path_by all sizes is ok =
    pages_front (λ k. meeting wanted (after k all)) (meeting wanted all) [] (meeting wanted all) sizes
    (λ front rest p e. sym (meeting-after wanted (key p) all)
    ∙ split_after (meeting wanted all) front p rest e (kept-rising (meets wanted) all is.rising))
    refl ok

pub returns-clause-before : goal.returns-clause-before
returns-clause-before c wanted allows n path_by k all sizes is ok =
    pages_front (λ j. meeting wanted (before j all)) (meeting wanted (before k all)) [] (meeting wanted (before k all)) sizes
    (λ front rest p e. meeting-back wanted (key p) all
    ∙ goes-back (meeting wanted all) k front rest p (kept-rising (meets wanted) all is.rising) (sym (meeting-back wanted k all) ∙ e))
    refl ok
