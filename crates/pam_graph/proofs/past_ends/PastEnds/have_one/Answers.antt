use Rattle.std.proofs.Common.{◌≡◌, ◌-◌, ◌∙◌, List, ℕ, [], ap, get_or, sym}
use Rattle.std.specs.List.{list_any}
use Rattle.std.proofs.lemmas.List.{get_or_default, get_or_past}
use Rattle.pam_codes.specs.Set.{is_in}
use Rattle.pam_graph.proofs.Passing.{any-of-none, same-meets}
use Rattle.pam_graph.proofs.past_ends.PastEnds.have_one.Goals as goal

pub returns-then-index-by_number : goal.returns-then-index-by_number
returns-then-index-by_number c =
    let codes = c.as_slice-by_number.result.now in
    let past : get_or codes (c.args.number - 1) [] ≡ [] =
    ap (λ (n : ℕ). get_or codes n []) (sym c.saturating_sub-index.ensures)
    ∙ get_or_past codes c.saturating_sub-index.result [] c.if-index-by_number.true in
    sym (ap (λ (x : List ℕ). list_any (λ code. is_in code x) c.args.codes)
    (ap (λ (x : List (List ℕ)). get_or x (c.args.number - 1) []) (sym (c.as_slice-by_number.ensures ∙ c.self.view_is)) ∙ past)
    ∙ any-of-none c.args.codes)

pub returns : goal.returns
returns c =
    let codes = c.as_slice-by_number.result.now in
    let index = c.saturating_sub-index.result in
    let found = c.index-by_number-index.result in
    same-meets found c.args.codes c.meets.result c.least-least.ensures.order c.meets.ensures.0 c.meets.ensures.1
    ∙ ap (λ (x : List ℕ). list_any (λ code. is_in code x) c.args.codes)
    (c.index-by_number-index.is ∙ get_or_default codes index found [] c.if-index-by_number.false
    ∙ ap (λ (n : ℕ). get_or codes n []) c.saturating_sub-index.ensures
    ∙ ap (λ (x : List (List ℕ)). get_or x (c.args.number - 1) []) (c.as_slice-by_number.ensures ∙ c.self.view_is))
