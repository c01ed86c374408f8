use Rattle.std.proofs.Common.{◌<◌, ◌∙◌, ◌∷◌, [], None, List, ℕ, ap, arith, length, slice_index_or}
use Rattle.std.proofs.lemmas.List.{get_or_default}
use Rattle.pam_graph.specs.Goals.{fit, meeting}
use Rattle.pam_graph.specs.declared.goal.Goal.TheVariants.{Decides}
use Rattle.pam_paths.specs.Paths.{PathValue}
use Rattle.pam_graph.proofs.decisions.Decisions.count.Goals as goal

pub returns : goal.returns
returns c =
    let counts = c.self.inside.counts.items in
    let code = c.args.code in
    let are = c.self.invariant.1 in
    let inside : code < length counts = omega (arith, are.few, c.number.ensures.range, c.number.ensures.value) in
    c.index.ensures
    ∙ ap (λ (n : ℕ). slice_index_or counts n c.index.result.now) (c.from.ensures ∙ c.number.ensures.value)
    ∙ get_or_default counts code c.index.result.now None inside
    ∙ are.each code (omega (arith, c.number.ensures.range, c.number.ensures.value))
    ∙ ap (λ (ws : List PathValue). fit (length (meeting (Decides (code ∷ [])) ws))) c.self.view_is
