use Rattle.std.proofs.Common.{◌∙◌, ℕ, List, [], get_or, sym, ap, arith}
use Rattle.std.proofs.lemmas.List.{get_or_default, nil_from_length}
use Rattle.pam_codes.specs.Set.{codes_where}
use Rattle.pam_paths.specs.Known.{answers_by}
use Rattle.pam_paths.proofs.KnownCodes.{nothing_set, something_set, past_end}
use Rattle.pam_paths.proofs.knowledge.known_codes.Goals as goal

pub returns-then-index-ge-MAX_MODULES : goal.returns-then-index-ge-MAX_MODULES
returns-then-index-ge-MAX_MODULES c =
    nothing_set (get_or c.args.sets.now c.args.index []) _
    (past_end c.args.sets.now c.args.index (omega (arith, c.told-sets, c.if-index-ge-MAX_MODULES.true))) c.all.ensures

pub returns-then-len-eq0 : goal.returns-then-len-eq0
returns-then-len-eq0 c =
    let same = get_or_default c.args.sets.now c.args.index c.index-sets-index.result [] (omega (arith, c.type_inv.sets, c.if-index-ge-MAX_MODULES.false)) in
    nothing_set (get_or c.args.sets.now c.args.index []) _
    (sym same ∙ nil_from_length _ (sym c.len.ensures.count ∙ c.if-len-eq0.true)) c.all-then-len-eq0.ensures

pub returns : goal.returns
returns c =
    let same = get_or_default c.args.sets.now c.args.index c.index-sets-index.result [] (omega (arith, c.type_inv.sets, c.if-index-ge-MAX_MODULES.false)) in
    something_set (get_or c.args.sets.now c.args.index c.index-sets-index.result) c.len.ensures.order (λ e. c.if-len-eq0.false (c.len.ensures.count ∙ e))
    ∙ ap (λ (x : List ℕ). codes_where (answers_by x)) same
