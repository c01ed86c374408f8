use Rattle.std.proofs.Common.{◌∙◌, ◌++◌, List, ℕ, ap, eqb, map, rules, tests}
use Rattle.std.proofs.lemmas.Iterator.Splits.{YieldsList-from_slice_split}
use Rattle.std.proofs.lemmas.Iterator.Consumers.{YieldsList-end}
use Rattle.std.specs.List.{flat_map}
use Rattle.serde_json.specs.View.{view}
use Rattle.pam_lsp.specs.Findings.{values_in}
use Rattle.pam_lsp.proofs.finding.push_values.Goals as goal

pub returns : goal.returns
returns c =
    let cut = YieldsList-from_slice_split _ (λ (byte : ℕ). eqb byte 10) c.args.answer.now (cc) (cc) (cc) (λ x b q k. search (rules, tests)) in
    let end = YieldsList-end cut c.loop-line.yielded _ c.loop-line.yielded_by _ _ c.in-None.is c.next.ensures.steps in
    c.loop-line.invariant ∙ ap (λ (lines : List (List ℕ)). map view c.args.values.now.items ++ flat_map values_in lines) end.0
