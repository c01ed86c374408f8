use Rattle.std.proofs.Common.{◌∙◌, List, Option, Some, ap, length, ℕ}
use Rattle.std.specs.Prelude.{fold}
use Rattle.pam_graph.specs.inner.Tallies.{plus}
use Rattle.pam_graph.specs.Goals.{fit}
use Rattle.pam_paths.specs.Paths.{PathValue}
use Rattle.pam_graph.proofs.decisions.Decisions.total.Goals as goal

pub returns : goal.returns
returns c =
    c.sum_of.ensures
    ∙ ap (λ (counts : List (Option ℕ)). fold plus (Some 0) counts) c.deref.ensures.value
    ∙ c.self.invariant.1.whole
    ∙ ap (λ (ws : List PathValue). fit (length ws)) c.self.view_is
