use Rattle.std.proofs.Common.{◌&&◌, ◌∙◌, List, ℕ, ap, drop, not, sym}
use Rattle.pam_codes.specs.Set.{codes_where, is_in}
use Rattle.pam_codes.proofs.Firsts.{first_and_rest, rest_of_set}
use Rattle.pam_codes.proofs.set.CodeSet.take_least.Goals as goal

pub returns-clause-rest : goal.returns-clause-rest
returns-clause-rest c =
    let set = c.args.self.now in
    let code = c.in_ok-code.code in
    c.without.ensures ∙ ap (λ (one : List ℕ). codes_where (λ x. is_in x set && not (is_in x one))) c.single.ensures
    ∙ rest_of_set set code (drop 1 set) c.in_ok-code.ensures.order (first_and_rest set code (sym c.in_ok-code.ensures.first))
